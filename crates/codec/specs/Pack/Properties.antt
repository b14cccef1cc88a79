-- Packing and unpacking are inverse, over any list of widths.
-- Assumes nothing.
use Rattle.std.specs.Prelude.{◌≡◌, refl, List, [], ◌∷◌, ℕ, ◌+◌, ◌*◌, ◌/◌, ◌%◌, ◌^◌, ◌<◌}
use Rattle.std.proofs.Common.{sym, ap, ap₂, ◌∙◌, mod-lt, mod-eq_of_lt, arith, pow_pos, pow-add}
use Rattle.std.proofs.Math.Nat.{mod-mod, mod-one}
use Rattle.std.proofs.Math.Arith.{digits_lt}
use Rattle.std.proofs.Math.Pow.{high, low, field, mod-mod-pow}
use Rattle.std.proofs.lemmas.Nat.{mod-pow-add}
use Rattle.codec.specs.Pack.{bits, pack, unpack, Fitting}

-- the packed number takes no more bits than the widths say
pub pack_bound : (ws vs : List ℕ) → Fitting ws vs → pack ws vs < 2 ^ bits ws
unfolding pack
pack_bound [] [] f = omega arith
pack_bound [] (v ∷ vs) f = absurd f
pack_bound (w ∷ ws) [] f = absurd f
pack_bound (w ∷ ws) (v ∷ vs) f = rw pow-add (digits_lt f.0 (pack_bound ws vs f.1))

-- the fields lie in the number's low bits
pub unpack_low : (ws : List ℕ) (n : ℕ) → unpack ws (n % 2 ^ bits ws) ≡ unpack ws n
unfolding unpack
unpack_low [] n = refl
unpack_low (w ∷ ws) n =
    ap₂ ◌∷◌
    (ap (λ (x : ℕ). x % 2 ^ w) (field n w (bits ws)) ∙ mod-mod (n / 2 ^ bits ws) (2 ^ w))
    (sym (unpack_low ws (n % 2 ^ (w + bits ws))) ∙ ap (unpack ws) (mod-mod-pow n w (bits ws)) ∙ unpack_low ws n)

-- unpacking what was packed gives the values
pub unpack_pack : (ws vs : List ℕ) → Fitting ws vs → unpack ws (pack ws vs) ≡ vs
unfolding pack unpack
unpack_pack [] [] f = refl
unpack_pack [] (v ∷ vs) f = absurd f
unpack_pack (w ∷ ws) [] f = absurd f
unpack_pack (w ∷ ws) (v ∷ vs) f =
    let b = pack_bound ws vs f.1 in
    ap₂ ◌∷◌
    (ap (λ (x : ℕ). x % 2 ^ w) (high v (bits ws) b) ∙ mod-eq_of_lt f.0)
    (sym (unpack_low ws (v * 2 ^ bits ws + pack ws vs)) ∙ ap (unpack ws) (low v (bits ws) b) ∙ unpack_pack ws vs f.1)

-- packing what was unpacked gives the number's low bits
pub pack_unpack : (ws : List ℕ) (n : ℕ) → pack ws (unpack ws n) ≡ n % 2 ^ bits ws
unfolding pack unpack
pack_unpack [] n = sym (mod-one n)
pack_unpack (w ∷ ws) n = ap (λ (x : ℕ). (n / 2 ^ bits ws % 2 ^ w) * 2 ^ bits ws + x) (pack_unpack ws n) ∙ sym (mod-pow-add n w (bits ws))

-- what was unpacked fits
pub unpack_fits : (ws : List ℕ) (n : ℕ) → Fitting ws (unpack ws n)
unfolding unpack
unpack_fits [] n = tt
unpack_fits (w ∷ ws) n = (mod-lt (n / 2 ^ bits ws) (pow_pos w), unpack_fits ws n)
