-- The register: its step is linear, and what it holds at the end is the check.
use mathlib.Core.Path.{◌≡◌, refl, sym, ap, ap₂, ◌∙◌}
use mathlib.Core.List.{List, [], ◌∷◌, ◌++◌, append_assoc, append-nil}
use Prim.Native.Nat.{ℕ, ◌+◌, ◌%◌, ◌<◌}
use native.Mathlib.Nat.{add-mod, mod-lt, zero-lt-suc}
use native.Mathlib.Numerals.{add-one}
use native.Mathlib.Omega.{arith}
use lib.ListN.{length, replicate, get_or, drop}
use lib.Seq.{drop-cons}
use Rattle.bits.specs.Claims.{Bits}
use Rattle.bits.proofs.Lists.{bits_tail}
use Rattle.crc.specs.Polynomial.{raised, add_highest, scale, rem}
use Rattle.crc.specs.Check.{check_of}
use Rattle.crc.specs.Clauses.{step}
use Rattle.crc.proofs.Polynomial.{length-scale, length-add, length-raised, bits-raised, bits-add, add-zeros, add_assoc, add-append, add-raised, add-scaled}

-- the register after all bits of a payload
abbrev pub run : List ℕ → List ℕ → List ℕ → List ℕ
run t g [] = g
run t g (b ∷ bs) = run t (step t g b) bs

pub length-step : (t g : List ℕ) (b : ℕ) → length g ≡ length t → length (step t g b) ≡ length t
length-step t [] b h = h
length-step t (a ∷ g) b h =
    let k = length-raised g 1 in
    length-add (scale ((a + b) % 2) t) (raised g 1) (omega (arith, length-scale ((a + b) % 2) t)) ∙ omega arith

pub bits-step : (t g : List ℕ) (b : ℕ) → Bits g → Bits (step t g b)
bits-step t [] b d = d
bits-step t (a ∷ g) b d = bits-add (scale ((a + b) % 2) t) (raised g 1) (bits-raised g 1 (bits_tail d))

-- The register takes the steps of the long division of start · z^k + payload · z^r.
run-rem : (t g bs : List ℕ) → 0 < length t → length g ≡ length t → Bits g
    → rem t (length bs) (add_highest (raised g (length bs)) (raised bs (length t))) ≡ run t g bs
run-rem t g [] l h b = ap₂ add_highest (append-nil g) (ap (λ (n : ℕ). replicate n 0) (sym h)) ∙ add-zeros g b
run-rem t [] (c ∷ bs) l h b = absurd (omega arith)
run-rem t (a ∷ g) (c ∷ bs) l h b =
    let x = scale ((a + c) % 2) t in
    let u = raised g 1 in
    let z : List ℕ = replicate (length bs) 0 in
    let w = raised bs (length t) in
    let lx = length-scale ((a + c) % 2) t in
    let lu = length-raised g 1 in
    let lz = length-raised u (length bs) in
    let lw = length-raised bs (length t) in
    ap (rem t (length bs))
    (ap (λ (v : List ℕ). add_highest x (add_highest v w)) (sym (append_assoc g (0 ∷ []) z))
    ∙ add_assoc x (u ++ z) w (omega arith) (omega arith)
    ∙ ap (λ (v : List ℕ). add_highest v w) (add-append x u z (omega arith)))
    ∙ run-rem t (step t (a ∷ g) c) bs l (length-step t (a ∷ g) c h) (bits-step t (a ∷ g) c b)

-- From the start value, it ends at the check.
pub run_check : (t start payload : List ℕ) → 0 < length t → length start ≡ length t → Bits start → run t start payload ≡ check_of t start payload
unfolding check_of
run_check t start payload l h b = sym (run-rem t start payload l h b)

-- a turn of a loop over the payload
pub run-next : (t g payload : List ℕ) (i : ℕ) → i < length payload → run t g (drop i payload) ≡ run t (step t g (get_or payload i 0)) (drop (i + 1) payload)
run-next t g payload i h = rw (add-one, drop-cons payload i 0)

-- The step of a sum is the sum of the steps.
pub step_linear : (t x y : List ℕ) (b c : ℕ) → length x ≡ length t → length y ≡ length t → step t (add_highest x y) ((b + c) % 2) ≡ add_highest (step t x b) (step t y c)
step_linear t [] [] b c h k = refl
step_linear t [] (d ∷ y) b c h k = absurd (omega arith)
step_linear t (a ∷ x) [] b c h k = absurd (omega arith)
step_linear t (a ∷ x) (d ∷ y) b c h k =
    let e : a + d + (b + c) ≡ a + b + (d + c) = omega arith in
    let struck : ((a + d) % 2 + (b + c) % 2) % 2 ≡ ((a + b) % 2 + (d + c) % 2) % 2 =
    sym (add-mod (a + d) (b + c) 2) ∙ ap (λ (n : ℕ). n % 2) e ∙ add-mod (a + b) (d + c) 2 in
    let lx = length-raised x 1 in
    let ly = length-raised y 1 in
    ap₂ (λ (n : ℕ) (w : List ℕ). add_highest (scale n t) w) struck (sym (add-raised x y 1 (omega arith)))
    ∙ add-scaled ((a + b) % 2) ((d + c) % 2) t (raised x 1) (raised y 1) (mod-lt (a + b) (zero-lt-suc 1)) (mod-lt (d + c) (zero-lt-suc 1))
    (omega arith) (omega arith)
