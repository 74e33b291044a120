-- `encoder::transform_in` meets its contract.
use mathlib.Core.Path.{◌≡◌, sym, ap, ap₂, ◌∙◌}
use mathlib.Core.List.{List}
use Prim.Native.Nat.{ℕ, ◌+◌, ◌-◌, ◌*◌, ◌^◌, ◌≤◌}
use native.Mathlib.Omega.{arith}
use borrow.Author.Rules.{rules}
use lib.ListN.{length}
use lib.Seq.{take_all}
use Rattle.laws.specs.Clauses.{splice, segment}
use Rattle.laws.proofs.Segment.{segment-splice, length-splice, splice-whole}
use Rattle.arrays.specs.Claims.{longest}
use Rattle.arrays.proofs.Sizes.{mask_fits}
use Rattle.bits.specs.Packing.{packed, unpacked}
use Rattle.bits.proofs.Packing.{length-packed}
use Rattle.transform.specs.Transform.{transformed}
use Rattle.transform.specs.Clauses.{BytesAt}
use Rattle.transform.proofs.Transformed.{length-transformed}
use Rattle.transform.proofs.Packed.{times_eight}
use Rattle.encoder.specs.Clauses.{TransformPre}
use Rattle.encoder.proofs.transform_in.Statement.{statement}
use Rattle.encoder.proofs.transform_in.Tie as tie

module _ {size n : ℕ} {w output : List ℕ} (p : TransformPre size n w output) (room : length output ≤ size) where
  layers : n ≡ n - 3 + 3
  layers = omega (arith, p.n_least)

  pow : length output ≡ 2 ^ (n - 3)
  pow = omega (arith, p.output_size, times_eight (n - 3), ap (λ (k : ℕ). 2 ^ k) layers)

  inside : 0 + length output ≤ length w
  inside = omega (arith, p.room_size, room)

  -- after the bits are copied
  module _ {w₁ : List ℕ} (e : w₁ ≡ splice w 0 (segment output 0 (length output))) where
    all : segment output 0 (length output) ≡ output
    all = take_all (length output) output (omega arith)

    copied_at : BytesAt size w₁ 0 (length output)
    copied_at = record {
      whole = ap length (e ∙ ap (splice w 0) all) ∙ length-splice w 0 output (length output) (omega arith) inside ∙ p.room_size;
      fits = omega (arith, room);
    }

    copied : segment w₁ 0 (length output) ≡ output
    copied = ap (λ (x : List ℕ). segment x 0 (length output)) (e ∙ ap (splice w 0) all) ∙ segment-splice w 0 output (length output) (omega arith) inside

    abbrev word : List ℕ
    word = packed (transformed (n - 3 + 3) (unpacked (segment w₁ 0 (length output)) (8 * length output)))

    word-long : length word ≡ length output
    word-long = length-packed _ ∙ omega (arith, length-transformed (n - 3 + 3) (unpacked (segment w₁ 0 (length output)) (8 * length output)), p.output_size, ap (λ (k : ℕ). 2 ^ k) layers)

    inside₁ : 0 + length output ≤ length w₁
    inside₁ = omega (arith, copied_at.whole, copied_at.fits)

    -- after the transform
    module _ {w₂ : List ℕ} (e₂ : w₂ ≡ splice w₁ 0 word) where
      word-whole : length w₂ ≡ size
      word-whole = ap length e₂ ∙ length-splice w₁ 0 word (length output) word-long inside₁ ∙ copied_at.whole

      word_at : segment w₂ 0 (length output) ≡ word
      word_at = ap (λ (x : List ℕ). segment x 0 (length output)) e₂ ∙ segment-splice w₁ 0 word (length output) word-long inside₁

      word-is : word ≡ packed (transformed n (unpacked output (2 ^ n)))
      word-is = ap₂ (λ (k : ℕ) (x : List ℕ). packed (transformed k x)) (sym layers) (ap₂ unpacked copied p.output_size)

      word-put : splice output 0 (segment w₂ 0 (length output)) ≡ packed (transformed n (unpacked output (2 ^ n)))
      word-put = ap (splice output 0) word_at ∙ splice-whole output word word-long ∙ word-is

-- a code's packed bits fit the array
fits-room : (s : tie.Start) → length s.args.output.now ≤ longest
fits-room s = omega (arith, mask_fits s.requires.n_most s.requires.output_size)

copy-requires : tie.Need-copy-requires
copy-requires c κs = let s = c.before.before in (omega arith, omega (arith, s.requires.room_size, fits-room s))

transform-packed-requires : tie.Need-transform_packed-requires
transform-packed-requires c κs =
    let k = c.before in
    (pow k.requires (fits-room k.before.before.before), copied_at k.requires (fits-room k.before.before.before) k.copy.ensures)

-- after the transform
module _ (c : tie.After-transform_packed) where
  abbrev k : tie.After-copy
  k = c.before.before

  abbrev s : tie.Start
  s = k.before.before.before

  whole : length c.transform_packed.new.bytes ≡ longest
  whole = word-whole s.requires (fits-room s) k.copy.ensures c.transform_packed.ensures

copy-requires-2 : tie.Need-copy-requires-2
copy-requires-2 c κs = let t = c.before.before.before in (omega (arith, whole t, fits-room (s t)), omega arith)

returns : tie.Need-returns
returns c =
    c.copy-2.ensures ∙ word-put (s c.before.before.before.before.before.before).requires (fits-room (s c.before.before.before.before.before.before)) (k c.before.before.before.before.before.before).copy.ensures c.transform_packed.ensures

pub transform_in_spec : {M : Type 1} → statement M
transform_in_spec =
    tie.close
    (tie.spec
    copy-requires
    (λ c. search rules)
    transform-packed-requires
    copy-requires-2
    (λ c. search rules)
    returns)
