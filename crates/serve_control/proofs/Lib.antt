mod Bidden
mod Printed
