pub mod Vcd
