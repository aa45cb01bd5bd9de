-- Each turn of the program is a turn of a run.
use mathlib.Core.Path.{◌≡◌, refl, sym, subst}
use mathlib.Core.Bool.{Bool, true, false}
use mathlib.Core.List.{List, []}
use Prim.Native.Nat.{ℕ}
use Rattle.exchange.specs.Came.{Exchanged}
use Rattle.pieces.specs.Pieces.{Sound, Answered, start_of}
use Rattle.pieces.specs.declared.State.{State}
use Rattle.lines.specs.Answering.{First}
use Rattle.lines.specs.Inside.{Turns}
use Rattle.lines.specs.Runs.{Answering, begun, again, more, Ran}
use Rattle.lines.specs.declared.Turn.{Turn}

pub begins : {held : List ℕ} {t : Turn} → First t.devices → t.state ≡ start_of → Ran held [] t
begins f e = record { input = []; written = []; runs = begun f e }

pub goes_on : {held held' out out' : List ℕ} {t t' : Turn} {s : State} → Ran held out t → Exchanged held t.state held' s
    → Sound t'.state
    → Answered t'.state
    → Turns held' s t.devices [] out' t'.state t'.devices
    → Ran held' out' t'
goes_on {held} {held'} {out} {out'} {t} {t'} {s} r x sound answered turns = by t.state.full refl where
  answering : Answering held' s t.devices [] out' t'
  answering = record { sound = sound; answered = answered; turns = turns }

  by : (full : Bool) → t.state.full ≡ full → Ran held' out' t'
  by true f =
      let k = x.again f in
      let here : Answering held t.state t.devices [] out' t' =
      subst (λ (y : State). Answering held y t.devices [] out' t') k.1
      (subst (λ (h : List ℕ). Answering h s t.devices [] out' t') k.0 answering) in
      subst (λ (h : List ℕ). Ran h out' t') (sym k.0) (record { input = r.input; written = _; runs = again r.runs f here })
  by false f =
      let k = x.more f in
      record { input = _; written = _; runs = more r.runs f k.0 k.1.fills answering }
