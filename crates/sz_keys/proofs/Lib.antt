mod Cuts
mod Taking
mod Standing
mod NextLeaf
