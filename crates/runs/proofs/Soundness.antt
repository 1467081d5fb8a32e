-- A step leaves the lengths right and the record possible where they were.
use mathlib.Core.Path.{◌≡◌, refl, sym, subst}
use mathlib.Core.Bool.{true, false, ◌&&◌, ◌||◌}
use mathlib.Core.List.{List}
use Prim.Native.Nat.{ℕ, zero, suc, ◌+◌, ◌%◌, ◌^◌, ◌<◌, ◌≤◌}
use native.Mathlib.Omega.{arith}
use lib.Bits.{bit_or}
use lib.Dec.{ltb, leb, eqb}
use Rattle.std.proofs.lemmas.Bool.{lt-ltb, eq-eqb, ne_eqb, eqb-true, leb-true, ltb-true, and_parts, cond_both}
use Rattle.fields.specs.Memory.{right_length}
use Rattle.numbers.specs.Flags.{all_flags}
use Rattle.instructions.specs.Fetch.{length_of}
use Rattle.instructions.specs.Operands.{gathered}
use Rattle.instructions.specs.Verdict.{verdict_of}
use Rattle.instructions.specs.Items.{worked}
use Rattle.instructions.specs.Instruction.{by_items, count_of}
use Rattle.instructions.proofs.Steps.{works_flags, verdict_there, length_whole, acts_registers, acts_flags, acts_place}
use Rattle.std.specs.Prelude.{Result, Ok, Err}
use Rattle.runs.specs.declared.answers.Answer.{Answer}
use Rattle.runs.specs.declared.records.Record.{Record}
use Rattle.runs.specs.Answers.{said_of}
use Rattle.runs.specs.Records.{flags_right, place_right, between_two, half_done, possible, half, between}
use Rattle.runs.specs.Steps.{State, Stepped, ended, next, word_at, operands_at, verdict_at, items_at, after, burst, passed, acted, begun, fresh, held, step, strides}
use Rattle.runs.specs.Calls.{lengths_right, Sound}
use Rattle.runs.proofs.Numbered.{allows_passes, led, fresh_led}
use Rattle.runs.proofs.Iterating.{still, last_stride}
use Rattle.runs.proofs.Bursting.{Stands, holds_of, half_holds}

-- LENGTHS AND RECORDS, BY PARTS

pub lengths_of : (bytes n : ℕ) → lengths_right bytes n ≡ true → (right_length bytes ≡ true) × (n ≡ 256)
unfolding lengths_right
lengths_of bytes n h =
    let e = and_parts (right_length bytes) (eqb n 256) h in
    (e.0, eqb-true _ _ e.1)

pub small : (bytes : ℕ) → right_length bytes ≡ true → bytes ≤ 65536
small bytes h = leb-true _ _ (and_parts (leb 8 bytes) (leb bytes 65536) (and_parts (leb 8 bytes && leb bytes 65536) (eqb (bytes % 8) 0) h).0).1

record Can (bytes : ℕ) (registers : List ℕ) (c : Record) : Type 0 where
  low : c.p < 2 ^ 48
  whole : c.p % 32 ≡ 0
  only : bit_or c.flags all_flags ≡ all_flags
  stands : (between_two c || half_done bytes registers c) ≡ true

can_of : (bytes : ℕ) (registers : List ℕ) (c : Record) → possible bytes registers c ≡ true → Can bytes registers c
unfolding possible place_right flags_right
can_of bytes registers c h =
    let h₁ = and_parts (ltb c.p (2 ^ 48) && eqb (c.p % 32) 0) _ h in
    let h₂ = and_parts (eqb (bit_or c.flags all_flags) all_flags) _ h₁.1 in
    let h₃ = and_parts (ltb c.p (2 ^ 48)) (eqb (c.p % 32) 0) h₁.0 in
    record {
      low = ltb-true _ _ h₃.0;
      whole = eqb-true _ _ h₃.1;
      only = eqb-true _ _ h₂.0;
      stands = h₂.1;
    }

possible_between : (bytes : ℕ) (registers : List ℕ) (p f : ℕ) → p < 2 ^ 48 → p % 32 ≡ 0 → bit_or f all_flags ≡ all_flags → possible bytes registers (between p f) ≡ true
unfolding possible place_right flags_right between_two
possible_between bytes registers p f low whole only = simp (lt-ltb _ _ low, eq-eqb _ _ whole, eq-eqb _ _ only)

possible_half : (bytes : ℕ) (registers : List ℕ) (p word k f : ℕ) → p < 2 ^ 48 → p % 32 ≡ 0 → bit_or f all_flags ≡ all_flags
    → half_done bytes registers (half p word k f) ≡ true → possible bytes registers (half p word k f) ≡ true
unfolding possible place_right flags_right between_two
possible_half bytes registers p word k f low whole only h = simp (lt-ltb _ _ low, eq-eqb _ _ whole, eq-eqb _ _ only, h)

-- A record that is possible is half done, or between two instructions
pub possible_marked : (bytes : ℕ) (registers : List ℕ) (c : Record) → possible bytes registers c ≡ true → (c.mark ≡ 0 → ⊥) → half_done bytes registers c ≡ true
unfolding between_two
possible_marked bytes registers c h d =
    let stands = (can_of bytes registers c h).stands in
    rw (ne_eqb c.mark 0 d) at stands

-- AFTER A STEP

-- P after a word that passes
past_right : (s : State) (word : ℕ) → Sound s → verdict_of s.rec.p word (gathered word s.registers) s.bytes ≡ 0
    → (s.rec.p + length_of word < 2 ^ 48) × ((s.rec.p + length_of word) % 32 ≡ 0)
past_right s word ok passes =
    let lent = (lengths_of _ _ ok.lengths).0 in
    let there = verdict_there s.rec.p word (gathered word s.registers) s.bytes lent passes in
    let most : s.bytes ≤ 65536 = small s.bytes lent in
    let whole = (can_of _ _ _ ok.can).whole in
    let long = length_whole word in
    (omega arith, omega arith)

burst_sound : (s : State) (word i : ℕ) → Sound s → Stands s word → Sound (burst word (gathered word s.registers) i 1 s)
unfolding burst after
burst_sound s word i ok h =
    let c = can_of _ _ _ ok.can in
    let o = gathered word s.registers in
    let past = past_right s word ok h.passes in
    let only = works_flags word o s.bytes i 1 (worked s.memory s.rec.flags) c.only in
    record {
      lengths = ok.lengths;
      can =
          cond_both (ltb (i + 1) (count_of word o)) _ _ (λ (r : Record). possible s.bytes s.registers r ≡ true)
          (λ q. possible_half _ _ _ word _ _ c.low c.whole only (half_holds s word (i + 1) _ h (omega arith) (ltb-true _ _ q)))
          (λ _. possible_between _ _ _ _ past.0 past.1 only);
    }

passed_sound : (s : State) → Sound s → verdict_at s ≡ 0 → Sound (passed s)
passed_sound s ok passes =
    let past = past_right s (word_at s) ok passes in
    record { lengths = ok.lengths; can = possible_between _ _ _ _ past.0 past.1 (can_of _ _ _ ok.can).only }

acted_sound : (s : State) → Sound s → verdict_at s ≡ 0 → by_items (word_at s) ≡ false → Sound (acted s)
acted_sound s ok passes other =
    let c = can_of _ _ _ ok.can in
    let place = acts_place s.rec.p (word_at s) (operands_at s) s.bytes s.memory s.registers s.rec.flags (lengths_of _ _ ok.lengths).0 passes other c.low c.whole in
    record {
      lengths = rw (acts_registers s.rec.p (word_at s) (operands_at s) s.bytes s.memory s.registers s.rec.flags) ok.lengths;
      can =
          possible_between _ _ _ _ place.0 place.1
          (acts_flags s.rec.p (word_at s) (operands_at s) s.bytes s.memory s.registers s.rec.flags c.only);
    }

begun_sound : (s : State) → Sound s → verdict_at s ≡ 0 → Sound (begun s)
unfolding begun
begun_sound s ok passes =
    cond_both (by_items (word_at s)) _ _ Sound
    (λ is. cond_both (eqb (items_at s) 0) _ _ Sound (λ _. passed_sound s ok passes) (λ _. burst_sound s (word_at s) 0 ok (record { passes = passes; of_items = is })))
    (λ other. acted_sound s ok passes other)

-- the next state, if there is one, is sound
abbrev Keeps : Stepped → Type 0
Keeps (ended a) = Unit {0}
Keeps (next t) = Sound t

fresh_keeps : (s : State) → Sound s → Keeps (fresh s)
fresh_keeps s ok = subst Keeps (sym (fresh_led s)) (go (said_of (verdict_at s)) refl)
  where
    go : (x : Result (Unit {0}) Answer) → said_of (verdict_at s) ≡ x → Keeps (led x (begun s))
    go (Err a) q = tt
    go (Ok _) q = begun_sound s ok (allows_passes s q)

held_keeps : (s : State) → Sound s → Keeps (held s)
unfolding held
held_keeps s ok =
    cond_both (half_done s.bytes s.registers s.rec) _ _ Keeps
    (λ q.
    let h = holds_of _ _ _ q in
    burst_sound s s.rec.word s.rec.items ok (record { passes = h.passes; of_items = h.of_items }))
    (λ _. tt)

step_keeps : (s : State) → Sound s → Keeps (step s)
unfolding step
step_keeps s ok = cond_both (eqb s.rec.mark 0) _ _ Keeps (λ _. fresh_keeps s ok) (λ _. held_keeps s ok)

pub step_sound : (s t : State) → Sound s → step s ≡ next t → Sound t
step_sound s t ok e = rw e at (step_keeps s ok)

pub strides_sound : (j : ℕ) (s t : State) → Sound s → strides j s ≡ next t → Sound t
strides_sound zero s t ok e = subst Sound (still s t e) ok
strides_sound (suc j) s t ok e =
    let u = last_stride j s t e in
    step_sound u.0 t (strides_sound j s u.0 ok u.1) u.2
