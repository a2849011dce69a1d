mod Findings
mod Pieces
