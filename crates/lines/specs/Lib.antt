pub mod Acting
pub mod DeviceLine
pub mod DeviceLines
pub mod Terminal
pub mod Terminals
pub mod Printer
pub mod Printers
