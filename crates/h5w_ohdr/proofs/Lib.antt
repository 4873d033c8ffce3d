mod Pieces
mod Sought
mod Parts
mod Listed
mod Read
mod Capped
