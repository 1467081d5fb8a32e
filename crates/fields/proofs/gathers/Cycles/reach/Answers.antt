-- Three ways to end: within the places read of the last cycle, before them in the first cycle, before them in a later one. Each has its law, and
-- no sum passes 2 ^ 33.
use mathlib.Core.Path.{sym}
use native.Mathlib.Omega.{arith}
use Rattle.fields.proofs.Cycled.{ends_within, ends_before_any, ends_between, room}
use Rattle.fields.proofs.Furthest.{no_items}
use Rattle.fields.proofs.gathers.Cycles.reach.Goals as goal

pub returns-then-n-eq0 : goal.returns-then-n-eq0
returns-then-n-eq0 c = no_items _ _ c.if-n-eq0.true

pub nonzero_div-cycles : goal.nonzero_div-cycles
nonzero_div-cycles c = omega (arith, c.requires.regular (omega arith))

pub nonzero_rem-place : goal.nonzero_rem-place
nonzero_rem-place c = omega (arith, c.requires.regular (omega arith))

pub overflow_mul-result : goal.overflow_mul-result
overflow_mul-result c = omega (arith, room c.args.self c.args.n c.requires c.if-n-eq0.false)

pub overflow_add-result : goal.overflow_add-result
overflow_add-result c = omega (arith, room c.args.self c.args.n c.requires c.if-n-eq0.false)

pub overflow_add-result-then-from-place : goal.overflow_add-result-then-from-place
overflow_add-result-then-from-place c = omega (arith, room c.args.self c.args.n c.requires c.if-n-eq0.false)

pub returns-then-from-place : goal.returns-then-from-place
returns-then-from-place c = omega (arith, ends_within c.args.self c.args.n c.requires c.if-n-eq0.false c.if-from-place.true)

pub returns-then-cycles-eq0 : goal.returns-then-cycles-eq0
returns-then-cycles-eq0 c = sym (ends_before_any c.args.self c.args.n c.requires c.if-n-eq0.false c.if-from-place.false c.if-cycles-eq0.true)

pub overflow_mul-result-2 : goal.overflow_mul-result-2
overflow_mul-result-2 c = omega (arith, room c.args.self c.args.n c.requires c.if-n-eq0.false)

pub overflow_add-result-2 : goal.overflow_add-result-2
overflow_add-result-2 c = omega (arith, room c.args.self c.args.n c.requires c.if-n-eq0.false)

pub overflow_add-result-3 : goal.overflow_add-result-3
overflow_add-result-3 c = omega (arith, room c.args.self c.args.n c.requires c.if-n-eq0.false)

pub returns : goal.returns
returns c = sym (ends_between c.args.self c.args.n c.requires c.if-n-eq0.false c.if-from-place.false (omega arith))
