-- Storing and finding the fields of a place are inverse.
-- Assumes nothing.
use Rattle.std.specs.Prelude.{◌≡◌, refl, List, ◌++◌, ℕ, zero, suc, ◌*◌, ◌%◌, ◌^◌, ◌≤◌, ◌<◌, length, take}
use Rattle.std.proofs.Common.{sym, ap, ◌∙◌, pow-suc, mul-suc, mod-eq_of_lt, arith, pow-add}
use Rattle.codec.specs.Pack.{bits, pack, unpack, Fitting}
use Rattle.codec.specs.Pack.Properties.{pack_bound, unpack_pack, pack_unpack, unpack_fits}
use Rattle.codec.specs.Bytes.{number_to, bytes_of, AreBytes}
use Rattle.codec.specs.Bytes.Properties.{bytes_length, number_append, number_bytes, number_bound, bytes_number}
use Rattle.codec.specs.Place.{size_of, Whole, placed, fields_of}

pub placed_length : (ws vs : List ℕ) → length (placed ws vs) ≡ size_of ws
unfolding placed
placed_length ws vs = bytes_length (size_of ws) (pack ws vs)

-- so many bytes hold so many bits
byte_bits : (n : ℕ) → 2 ^ (8 * n) ≡ 256 ^ n
byte_bits zero = refl
byte_bits (suc n) =
    ap (λ (k : ℕ). 2 ^ k) (mul-suc 8 n) ∙ pow-add 2 (8 * n) 8 ∙ ap (λ (k : ℕ). k * 256) (byte_bits n) ∙ sym (pow-suc 256 n)

whole_bits : (ws : List ℕ) → Whole ws → 2 ^ bits ws ≡ 256 ^ size_of ws
whole_bits ws h = ap (λ (k : ℕ). 2 ^ k) (sym h) ∙ byte_bits (size_of ws)

-- fields found where they were stored, whatever follows, are the values
pub fields_placed : (ws vs rest : List ℕ) → Whole ws → Fitting ws vs → fields_of ws (placed ws vs ++ rest) ≡ vs
unfolding placed fields_of
fields_placed ws vs rest h f =
    let n = size_of ws in
    let x = pack ws vs in
    let l : x < 256 ^ n = rw (← whole_bits ws h) (pack_bound ws vs f) in
    let m = bytes_length n x in
    ap (unpack ws) (number_append n (bytes_of n x) rest (omega arith) ∙ number_bytes n x l) ∙ unpack_pack ws vs f

-- fields stored as they were found are the bytes
pub placed_fields : (ws s : List ℕ) → Whole ws → AreBytes s → size_of ws ≤ length s → placed ws (fields_of ws s) ≡ take (size_of ws) s
unfolding placed fields_of
placed_fields ws s h b l =
    let n = size_of ws in
    let x = number_to n s in
    ap (bytes_of n) (pack_unpack ws x ∙ ap (λ (k : ℕ). x % k) (whole_bits ws h) ∙ mod-eq_of_lt (number_bound n s b)) ∙ bytes_number n s b l

-- what is found fits
pub fields_fit : (ws s : List ℕ) → Fitting ws (fields_of ws s)
unfolding fields_of
fields_fit ws s = unpack_fits ws (number_to (size_of ws) s)
