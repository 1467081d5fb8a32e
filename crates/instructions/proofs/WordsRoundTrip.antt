-- A word and its parts say the same: eight bytes side by side, taken out again. So a listed word read and put together is that word,
-- accepted parts read back as they were, and what is refused is refused alike. No code is looked at.
use mathlib.Core.Path.{◌≡◌, refl, sym, ap, ◌∙◌}
use mathlib.Core.List.{[], ◌∷◌}
use Prim.Native.Nat.{ℕ, ◌+◌, ◌*◌, ◌%◌, ◌^◌, ◌<◌}
use native.Mathlib.Nat.{mod-eq_of_lt}
use native.Mathlib.Omega.{arith}
use lib.Pow.{mod-pow-add}
use Rattle.fields.specs.Field.{field}
use Rattle.fields.specs.Bytes.{num}
use Rattle.instructions.specs.declared.table.Row.{Row}
use Rattle.instructions.specs.declared.words.Parts.{Parts}
use Rattle.instructions.specs.declared.words.Refusal.{Refusal}
use Rattle.std.specs.Prelude.{Result, Ok, Err}
use Rattle.instructions.specs.Words.{parts_of, joined, decoded, reading_at, reading, assembled_at, assembled}

-- each part is a byte
pub record Whole (p : Parts) : Type 0 where
  pub f_byte : p.f < 256
  pub g_byte : p.g < 256
  pub x_byte : p.x < 256
  pub a_byte : p.a < 256
  pub y_byte : p.y < 256
  pub b_byte : p.b < 256
  pub z_byte : p.z < 256
  pub c_byte : p.c < 256

module _ (f g x a y b z c : ℕ) (hf : f < 256) (hg : g < 256) (hx : x < 256) (ha : a < 256) (hy : y < 256) (hb : b < 256) (hz : z < 256) (hc : c < 256) where
  word : ℕ
  word = num (f ∷ g ∷ x ∷ a ∷ y ∷ b ∷ z ∷ c ∷ [])

  taken : ◌≡◌ {A = Parts} (parts_of word) (record { f = f; g = g; x = x; a = a; y = y; b = b; z = z; c = c })
  unfolding word
  taken =
      let ef : field 64 0 8 word ≡ f = omega arith in
      let eg : field 64 8 8 word ≡ g = omega arith in
      let ex : field 64 16 8 word ≡ x = omega arith in
      let ea : field 64 24 8 word ≡ a = omega arith in
      let ey : field 64 32 8 word ≡ y = omega arith in
      let eb : field 64 40 8 word ≡ b = omega arith in
      let ez : field 64 48 8 word ≡ z = omega arith in
      let ec : field 64 56 8 word ≡ c = omega arith in
      cc

pub apart_joined : (p : Parts) → Whole p → parts_of (joined p) ≡ p
unfolding word
apart_joined p h = taken p.f p.g p.x p.a p.y p.b p.z p.c h.f_byte h.g_byte h.x_byte h.a_byte h.y_byte h.b_byte h.z_byte h.c_byte

pub joined_apart : (w : ℕ) → w < 2 ^ 64 → joined (parts_of w) ≡ w
joined_apart w h =
    sym (sym (mod-eq_of_lt h) ∙ mod-pow-add w 8 56
    ∙ ap (λ (r : ℕ). field 64 0 8 w * 2 ^ 56 + r) (mod-pow-add w 8 48
    ∙ ap (λ (r : ℕ). field 64 8 8 w * 2 ^ 48 + r) (mod-pow-add w 8 40
    ∙ ap (λ (r : ℕ). field 64 16 8 w * 2 ^ 40 + r) (mod-pow-add w 8 32
    ∙ ap (λ (r : ℕ). field 64 24 8 w * 2 ^ 32 + r) (mod-pow-add w 8 24
    ∙ ap (λ (r : ℕ). field 64 32 8 w * 2 ^ 24 + r) (mod-pow-add w 8 16
    ∙ ap (λ (r : ℕ). field 64 40 8 w * 2 ^ 16 + r) (mod-pow-add w 8 8
    ∙ ap (λ (r : ℕ). field 64 48 8 w * 2 ^ 8 + r) (mod-pow-add w 8 0
    ∙ ap (λ (r : ℕ). field 64 56 8 w * 2 ^ 0 + r) (last w)))))))))
  where
    last : (w : ℕ) → w % 2 ^ 0 ≡ 0
    last w = omega arith

-- ---- a listed word read and put together is the same word

pub read_assembled : (w : ℕ) (p : Parts) → w < 2 ^ 64 → reading w ≡ Ok p → assembled p ≡ Ok w
unfolding reading assembled
read_assembled w p h e = go (decoded w) refl e
  where
    go : (d : Result Row Refusal) → decoded w ≡ d → reading_at w d ≡ Ok p → assembled_at (joined p) (decoded (joined p)) ≡ Ok w
    go (Ok r) k e =
        let i : parts_of w ≡ p = cc in
        let j : joined p ≡ w = ap joined (sym i) ∙ joined_apart w h in
        rw (j, k)
    go (Err n) k e = cc

-- ---- accepted parts read back the same

pub assembled_read : (p : Parts) (w : ℕ) → Whole p → assembled p ≡ Ok w → reading w ≡ Ok p
unfolding reading assembled
assembled_read p w h e = go (decoded (joined p)) refl e
  where
    go : (d : Result Row Refusal) → decoded (joined p) ≡ d → assembled_at (joined p) d ≡ Ok w → reading_at w (decoded w) ≡ Ok p
    go (Ok r) k e =
        let j : joined p ≡ w = cc in
        rw (← j, k) (ap Ok (apart_joined p h))
    go (Err n) k e = cc

-- ---- what is refused is refused alike, with the same number

pub refused_alike : (p : Parts) (n : Refusal) → assembled p ≡ Err n → reading (joined p) ≡ Err n
unfolding reading assembled
refused_alike p n e = go (decoded (joined p)) e
  where
    go : (d : Result Row Refusal) → assembled_at (joined p) d ≡ Err n → reading_at (joined p) d ≡ Err n
    go (Ok r) e = cc
    go (Err m) e = ap Err cc

pub read_refused_alike : (w : ℕ) (n : Refusal) → w < 2 ^ 64 → reading w ≡ Err n → assembled (parts_of w) ≡ Err n
unfolding reading assembled
read_refused_alike w n h e = rw (joined_apart w h) (go (decoded w) e)
  where
    go : (d : Result Row Refusal) → reading_at w d ≡ Err n → assembled_at w d ≡ Err n
    go (Ok r) e = cc
    go (Err m) e = ap Err cc
