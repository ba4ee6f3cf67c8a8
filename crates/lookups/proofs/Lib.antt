mod Maps
mod Parts
