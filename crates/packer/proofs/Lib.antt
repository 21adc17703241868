mod Putting
mod Over
mod Digits
mod Fitting
mod Lengths
mod Packing
