-- The commands from a restart to the first request.
use Rattle.std.specs.Prelude.{ℕ, ◌-◌, List, [], ◌∷◌, ◌++◌, map}
use Rattle.std.specs.List.{range_with_len, zip}
use Rattle.tca.specs.Fields.{dpastat, dpsstat, exfak, cusyn, unit_half, data_area, request_places, terminal_places}
use Rattle.tca.specs.Records.{request_bytes, cu_ready}
use Rattle.line.specs.declared.command.Command.{Command}
use Rattle.line.specs.declared.command.Command.TheVariants.{Poll, Read, Write, Start, Acknowledge}

abbrev pub toggle_reads : List Command
toggle_reads = Read exfak ∷ Read dpsstat ∷ Read dpastat ∷ []

-- a Write of zero to each place of the unit's half, rising
unfoldable pub unit_half_zeros : List Command
unit_half_zeros = map (λ a. Write a 0) (range_with_len unit_half (data_area - unit_half))

-- a Write of each byte to its place, as far as there are both
abbrev pub writes : List ℕ → List ℕ → List Command
writes ps bs = map (λ p. Write p.0 p.1) (zip ps bs)

-- The restart is acknowledged, the unit's half cleared, the logical terminals named and the first function
-- asked for: its bytes, a clear DPSSTAT, the new CUSYN, and the start.
abbrev pub opening_commands : List ℕ → List Command
opening_commands terminals =
    (Poll ∷ Acknowledge ∷ []) ++ unit_half_zeros ++ writes terminal_places terminals ++ writes request_places (request_bytes cu_ready)
    ++ (Write dpsstat 0 ∷ []) ++ (Write cusyn 1 ∷ []) ++ (Start ∷ [])
