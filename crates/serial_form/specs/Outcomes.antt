-- When reading a form comes to what, said by conditions alone: what `read_form` decides by an order of tests.
use Rattle.std.specs.Prelude.{ℕ, ◌+◌, ◌≤◌, ◌<◌, ◌≡◌, List, length, drop}
use Rattle.common.specs.Forms.{too_short, trailing, version, too_many}
use Rattle.serial.specs.Layout.{size_of}
use Rattle.serial_form.specs.Form.{Version, number_of, Read, refused, reads, version_in, saved_in, count_in, start}

abbrev pub Is : Version → List ℕ → Type 0
Is v form = version_in form ≡ number_of v

-- No more bytes are said to wait than may.
abbrev pub Fits : Version → List ℕ → Type 0
Fits v form = count_in v form ≤ size_of (saved_in v form)

pub data Comes (form : List ℕ) : Read → Type 0 where
  no_version : length form < 2 → Comes form (refused too_short)
  other_version : 2 ≤ length form → ((v : Version) → Is v form → ⊥) → Comes form (refused version)
  cut_off : (v : Version) → 2 ≤ length form → Is v form → length form < start v → Comes form (refused too_short)
  too_many_wait : (v : Version) → start v ≤ length form → Is v form → size_of (saved_in v form) < count_in v form → Comes form (refused too_many)
  too_few : (v : Version) → start v ≤ length form → Is v form → Fits v form → length form < start v + count_in v form
      → Comes form (refused too_short)
  left_over : (v : Version) → Is v form → Fits v form → start v + count_in v form < length form → Comes form (refused trailing)
  whole : (v : Version) → Is v form → Fits v form → length form ≡ start v + count_in v form
      → Comes form (reads (saved_in v form) (drop (start v) form))
