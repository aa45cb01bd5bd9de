-- A clock moves to another host: the calls on the way, each as its contract promises, and what is so at the end.
use Rattle.std.specs.Prelude.{ℕ, ◌≤◌, ◌≡◌, List, length, take}
use Rattle.clock.specs.Layout.{clock_of, spare_of}
use Rattle.clock.specs.Runs.{Access, Result, Called}
use Rattle.clock_saved.specs.Saved.{Restores}
use Rattle.clock_form.specs.Form.{form_length, read_form}
use Rattle.clock_form.specs.Calls.{Encodes, Decodes}

-- The first host saves its clock, and writes what it saved into memory with room for the form: so many bytes of that memory leave.
pub record Leaves (clock form : List ℕ) : Type 0 where
  pub saved : List ℕ
  pub saves : saved ≡ clock
  pub memory : List ℕ
  pub memory' : List ℕ
  pub long : ℕ
  pub encodes : Encodes saved memory memory' long
  pub room : form_length ≤ length memory
  pub bytes : form ≡ take long memory'

-- The second host reads these bytes, whatever lay where it reads them to, and restores what it read.
pub record Arrives (form clock' : List ℕ) : Type 0 where
  pub saved₀ : List ℕ
  pub saved : List ℕ
  pub answer : ℕ
  pub decodes : Decodes (read_form form) saved₀ saved answer
  pub word : ℕ
  pub restores : Restores saved clock' word

-- Nothing was refused, and the words there are the words here. The same calls on both have the same results, and leave the same clock and
-- the same spare words.
pub record Same (clock form clock' : List ℕ) (a : Arrives form clock') : Type 0 where
  pub read : a.answer ≡ 0
  pub words : clock' ≡ clock
  pub runs : {run : List Access} {here there : List ℕ} {rs ss : List Result} → Called clock run here rs → Called clock' run there ss
      → (ss ≡ rs) × ((clock_of there ≡ clock_of here) × (spare_of there ≡ spare_of here))
