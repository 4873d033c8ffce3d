mod Named
mod Spelled
