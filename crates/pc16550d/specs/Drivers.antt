-- What drivers do with the port, as runs.
use Rattle.std.specs.Prelude.{List, [], ◌∷◌}
use Rattle.pc16550d.specs.Chip.{Op, read, write, input}

-- Linux serves a receive interrupt: line status and received data are enabled and three bytes come; its handler reads IIR, then LSR and RBR
-- until LSR shows no more data, then IIR again.
abbrev pub linux_receives : List Op
linux_receives =
    write 1 0x05 ∷ input (0x41 ∷ 0x42 ∷ 0x43 ∷ [])
    ∷ read 2 ∷ read 5 ∷ read 0 ∷ read 5 ∷ read 0 ∷ read 5 ∷ read 0 ∷ read 5 ∷ read 2 ∷ []

-- Its handler leaves bytes: of two it reads one, and IIR shows received data again. The other is read with the next that comes.
abbrev pub linux_leaves_bytes : List Op
linux_leaves_bytes =
    write 1 0x05 ∷ input (0x41 ∷ 0x42 ∷ [])
    ∷ read 2 ∷ read 5 ∷ read 0 ∷ read 2 ∷ input (0x43 ∷ []) ∷ read 2 ∷ read 5 ∷ read 0 ∷ read 5 ∷ read 0 ∷ read 5 ∷ read 2 ∷ []

-- Linux prints on its console: IER is saved and set to 0; for each byte LSR is read until it shows THR empty; IER is put back.
abbrev pub linux_prints : List Op
linux_prints =
    write 1 0x05 ∷ read 1 ∷ write 1 0x00
    ∷ read 5 ∷ write 0 0x48 ∷ read 5 ∷ write 0 0x69 ∷ read 5 ∷ write 0 0x0a ∷ read 5 ∷ write 1 0x05 ∷ []

-- The same, and a key is pressed meanwhile. As IER is put back received data is signalled, and the handler fetches the byte.
abbrev pub linux_prints_typed_at : List Op
linux_prints_typed_at =
    write 1 0x05 ∷ read 1 ∷ write 1 0x00
    ∷ read 5 ∷ write 0 0x48 ∷ input (0x79 ∷ []) ∷ read 5 ∷ write 0 0x69 ∷ read 5 ∷ write 1 0x05
    ∷ read 2 ∷ read 5 ∷ read 0 ∷ read 5 ∷ read 2 ∷ []

-- Linux prints while its transmitter's interrupt is in use: it is signalled again as IER is put back.
abbrev pub linux_prints_sending : List Op
linux_prints_sending =
    write 1 0x07 ∷ read 2 ∷ write 0 0x41 ∷ read 2 ∷ read 1 ∷ write 1 0x00
    ∷ read 5 ∷ write 0 0x48 ∷ read 5 ∷ write 1 0x07 ∷ read 2 ∷ write 0 0x42 ∷ read 2 ∷ write 1 0x05 ∷ []

-- A driver reads IIR twice and RBR not at all: received data is shown as long as the byte waits.
abbrev pub looks_twice : List Op
looks_twice = write 1 0x01 ∷ input (0x41 ∷ []) ∷ read 2 ∷ read 2 ∷ read 0 ∷ read 2 ∷ []

-- Both kinds are active: IIR shows received data and, once the byte is read, the empty transmitter. Meanwhile THR is written.
abbrev pub both_kinds : List Op
both_kinds =
    write 1 0x03 ∷ input (0x41 ∷ []) ∷ read 2 ∷ write 0 0x42 ∷ read 2 ∷ read 0 ∷ read 2 ∷ read 2 ∷ []

-- Each kind is disabled while it is active, and IIR shows it no more; enabled again, it is signalled.
abbrev pub disables_and_enables : List Op
disables_and_enables =
    write 1 0x01 ∷ input (0x41 ∷ []) ∷ write 1 0x00 ∷ read 2 ∷ write 1 0x01 ∷ read 2 ∷ read 0
    ∷ write 1 0x02 ∷ write 1 0x00 ∷ read 2 ∷ write 1 0x02 ∷ read 2 ∷ []

-- SeaBIOS looks for a port: IER 0x02 is there, and with it IIR shows the empty transmitter.
abbrev pub seabios_detects : List Op
seabios_detects = write 1 0x02 ∷ read 1 ∷ read 2 ∷ write 1 0x00 ∷ []

-- A boot loader sets the line up (DLAB, the divisor, eight bits, FIFOs, DTR and RTS), then polls: it writes where LSR shows THR empty, and
-- reads where LSR shows data.
abbrev pub loader_polls : List Op
loader_polls =
    write 1 0x00 ∷ write 3 0x83 ∷ write 0 0x01 ∷ write 1 0x00 ∷ write 3 0x03 ∷ write 2 0x01 ∷ write 4 0x03
    ∷ read 5 ∷ write 0 0x3e ∷ read 5 ∷ input (0x79 ∷ []) ∷ read 5 ∷ read 0 ∷ read 5 ∷ []

-- A driver empties the FIFOs as it starts: what was typed before is gone, and received data with it.
abbrev pub empties_at_start : List Op
empties_at_start =
    write 1 0x01 ∷ input (0x41 ∷ 0x42 ∷ []) ∷ write 2 0x07 ∷ read 5 ∷ read 2 ∷ input (0x43 ∷ []) ∷ read 2 ∷ read 0 ∷ read 5 ∷ []

-- A test in the loop, with DTR, RTS and OUT2 on: what is written comes back, and both kinds are signalled.
abbrev pub loop_test : List Op
loop_test =
    write 4 0x1b ∷ write 1 0x03 ∷ read 2 ∷ write 0 0x41 ∷ read 2 ∷ read 0 ∷ read 2 ∷ write 0 0x42 ∷ read 5 ∷ read 0 ∷ read 2 ∷ []
