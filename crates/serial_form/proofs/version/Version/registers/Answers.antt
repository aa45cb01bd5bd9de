use native.Mathlib.Omega.{arith}
use Rattle.serial_form.specs.Form.{start}
use Rattle.serial_form.proofs.Answers.{finds_2, finds_3}
use Rattle.serial_form.proofs.version.Version.registers.Goals as goal

pub slice_bounds-put-end-in-Two : goal.slice_bounds-put-end-in-Two
unfolding start
slice_bounds-put-end-in-Two c = omega (arith, rw c.in-Two.is at c.requires)

pub bounds-form-12 : goal.bounds-form-12
unfolding start
bounds-form-12 c = omega (arith, rw c.in-Three.is at c.requires)

pub slice_bounds-put-end-in-Three-2 : goal.slice_bounds-put-end-in-Three-2
unfolding start
slice_bounds-put-end-in-Three-2 c = omega (arith, rw c.in-Three.is at c.requires)

pub returns-in-Two : goal.returns-in-Two
returns-in-Two c = rw c.in-Two.is (finds_2 c.args.form.now (rw c.in-Two.is at c.requires) c.put.ensures)

pub returns-in-Three : goal.returns-in-Three
returns-in-Three c = rw c.in-Three.is (finds_3 c.args.form.now (rw c.in-Three.is at c.requires) c.put-in-Three.ensures)
