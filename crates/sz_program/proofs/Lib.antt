mod Completing
mod DeviceLaws
mod Ending
mod Forms
mod KeyLaws
mod Laws
mod PlainWords
