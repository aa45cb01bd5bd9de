-- Each answer is a law of `Testing`.
use mathlib.Core.Path.{refl}
use native.Mathlib.Omega.{arith}
use Rattle.serial_saved.proofs.Testing.{wide_ier, other_fcr, other_msr, other_lsr, other_iir, made_size, decided}
use Rattle.serial_saved.proofs.reachable.is_reachable.Goals as goal

pub returns-then-ier-ge16 : goal.returns-then-ier-ge16
returns-then-ier-ge16 c =
    let a = c.args in
    wide_ier a.saved.now a.bytes.now (omega (arith, c.if-ier-ge16.true))

pub returns-then-fcr : goal.returns-then-fcr
returns-then-fcr c =
    let a = c.args in
    other_fcr a.saved.now a.bytes.now c.if-fcr.true

pub returns-then-saved-ne176 : goal.returns-then-saved-ne176
returns-then-saved-ne176 c =
    let a = c.args in
    other_msr a.saved.now a.bytes.now c.if-saved-ne176.true

pub returns-then-saved-status : goal.returns-then-saved-status
returns-then-saved-status c =
    let a = c.args in
    other_lsr a.saved.now a.bytes.now _ (c.status.ensures a.bytes.now refl) c.if-saved-status.true

pub returns-then-iir-settled : goal.returns-then-iir-settled
returns-then-iir-settled c =
    let a = c.args in
    other_iir a.saved.now a.bytes.now _ c.settled.ensures c.if-iir-settled.true

pub returns : goal.returns
returns c =
    let saved = c.args.saved.now in
    let waiting = c.args.bytes.now in
    decided saved waiting (λ i. omega (arith, c.fits-saved i)) (λ i. omega (arith, c.type_inv.bytes i)) c.requires (omega (arith, c.if-ier-ge16.false))
    c.if-fcr.false c.if-saved-ne176.false (c.status.ensures waiting refl)
    c.if-saved-status.false c.settled.ensures c.if-iir-settled.false
    (made_size saved waiting c.size.ensures c.is_size.ensures (c.if-not-is_size.false))
    c.are_spares_zero.ensures
