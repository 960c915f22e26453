mod Parts
mod Hex
mod Commas
