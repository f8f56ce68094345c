use Rattle.std.specs.Prelude.{ℕ}
use Rattle.simulated.specs.declared.size.MemorySize.{MemorySize}
use Rattle.simulated.specs.declared.size.MemorySize.TheVariants.{Terminal, Printer}

abbrev pub bytes_of : MemorySize → ℕ
bytes_of Terminal = 256
bytes_of Printer = 4096
