-- Laws of the form as the code tests it.
mod Spaced
mod Coded
