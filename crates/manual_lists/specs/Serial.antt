-- The manual's column of a list of the serial port: what it says of the PC16550D.
use Rattle.std.specs.Prelude.{ℕ, ◌≡◌, cond, List, [], ◌∷◌}
use Rattle.sidebyside.specs.Answers.{Said, says, silent, none}
use Rattle.pc16550d.specs.Chip.{Chip, with_modem, master_reset, pin, Op, read, write, input, chip_does, rises}

-- What is seen of the chip at one line: the reply, the bytes sent, and 1 where the interrupt pin rises at some moment of the access, else
-- 0.
pub record Seen : Type 0 where
  pub reply : Said
  pub sent : List ℕ
  pub rose : ℕ

-- ---- A line of a list, with the manual's answer

-- `serial` resets the chip. To an access belongs what is seen by the manual; to one that reads what a reset leaves alone, where in the chip
-- it is. The level is the interrupt pin's.
pub data Line : Type 0 where
  serial : Line
  access : Op → Seen → Line
  kept : Op → (Chip → ℕ) → Line
  level : ℕ → Line

-- `r OO => r VV N`; `r OO` where the manual is silent; `w OO VV => w -- N`, and `w SS N` with the byte sent; `b HH.. => b T N`, T bytes
-- come.
abbrev pub r : ℕ → ℕ → ℕ → Line
r address v n = access (read address) (record { reply = says v; sent = []; rose = n })

abbrev pub r? : ℕ → Line
r? address = access (read address) (record { reply = silent; sent = []; rose = 0 })

abbrev pub w : ℕ → ℕ → ℕ → Line
w address v n = access (write address v) (record { reply = none; sent = []; rose = n })

abbrev pub sends : ℕ → ℕ → ℕ → ℕ → Line
sends address v byte n = access (write address v) (record { reply = none; sent = byte ∷ []; rose = n })

abbrev pub b : List ℕ → ℕ → ℕ → Line
b bytes t n = access (input bytes) (record { reply = says t; sent = []; rose = n })

-- ---- A list, from any chip

-- Reset, where CTS, DSR and DCD are high at its pins, as a fresh port shows them.
abbrev pub fresh : Chip → Chip
fresh c = master_reset (with_modem c (record { mcr = c.modem.mcr; pins = 0x0b; changes = c.modem.changes }))

abbrev pub seen_of : Chip → Op → Seen
seen_of c o = record { reply = (chip_does c o).reply; sent = (chip_does c o).sent; rose = cond (rises c (chip_does c o)) 1 0 }

abbrev pub only : ℕ → Seen
only v = record { reply = says v; sent = []; rose = 0 }

-- What the chip does at each line, and what the column says of a chip that was `before` at first.
abbrev pub done : Chip → List Line → List Seen
done c [] = []
done c (serial ∷ ls) = done (fresh c) ls
done c (access o s ∷ ls) = seen_of c o ∷ done (chip_does c o).chip ls
done c (kept o f ∷ ls) = seen_of c o ∷ done (chip_does c o).chip ls
done c (level l ∷ ls) = only (cond (pin c) 1 0) ∷ done c ls

abbrev pub column : Chip → List Line → List Seen
column before [] = []
column before (serial ∷ ls) = column before ls
column before (access o s ∷ ls) = s ∷ column before ls
column before (kept o f ∷ ls) = only (f before) ∷ column before ls
column before (level l ∷ ls) = only l ∷ column before ls

abbrev pub AsTold : Chip → List Line → Type 0
AsTold c ls = done c ls ≡ column c ls
