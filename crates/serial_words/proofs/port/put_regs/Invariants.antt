-- Register by register.
use Rattle.std.proofs.Common.{◌≡◌, ◌+◌, ◌≤◌, ◌*◌, ◌++◌, length, take}
use Rattle.std.specs.List.{flat_map}
use Rattle.serial_words.specs.Said.{next_byte}
use Rattle.serial_words.proofs.port.put_regs.Given as goal

abbrev pub invariant-loop-byte : goal.invariant-loop-byte
invariant-loop-byte l = record {
  near : length l.out ≤ length l.initial.out + 3 * l.byte-index;
  said : l.out ≡ l.initial.out ++ flat_map next_byte (take l.byte-index l.byte-items);
}
