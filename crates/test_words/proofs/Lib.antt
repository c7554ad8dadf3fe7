mod Floats
mod Signed
