-- What an accepted description says.
use mathlib.Core.Path.{◌≡◌, sym, ap, ◌∙◌, subst₂}
use mathlib.Core.List.{List}
use Prim.Native.Nat.{ℕ, ◌+◌, ◌-◌, ◌*◌, ◌/◌, ◌^◌, ◌≤◌, ◌<◌}
use native.Mathlib.Omega.{arith}
use lib.ListN.{length, get_or, length-drop}
use lib.Pow.{pow-add}
use Rattle.refusal.proofs.Judge.{refused_fine}
use Rattle.bits.specs.Bit.{bit}
use Rattle.bits.specs.Mask.{ones_in}
use Rattle.bits.proofs.Mask.{ones_le}
use Rattle.code.specs.declared.Code.{Code}
use Rattle.code.specs.Description.{word, mask_at, mask_of, start_of, code_of, describe_up_to, describe}
use Rattle.code.specs.Claims.{Laid, WellFormed, Described}
use Rattle.code.proofs.WellFormed.{well_formed_fine, well_formed_exactly}
use Rattle.std.specs.Prelude.{Err, Ok, is_ok}

-- eight indices to a byte
eight-bytes : (n : ℕ) → 3 ≤ n → 8 * (2 ^ n / 8) ≡ 2 ^ n
eight-bytes n h =
    let e : n ≡ 3 + (n - 3) = omega arith in
    let p : 2 ^ n ≡ 8 * 2 ^ (n - 3) = ap (λ (k : ℕ). 2 ^ k) e ∙ pow-add 2 3 (n - 3) in
    omega arith

-- the mask has a bit for each index
pub mask_size : {d : List ℕ} → Laid d → 8 * length (mask_of d) ≡ 2 ^ get_or d 4 0
mask_size {d} w = omega (arith, length-drop (mask_at (word d 2)) d, eight-bytes (get_or d 4 0) w.n_least, w.size)

module _ (d : List ℕ) (c : Code) (e : describe d ≡ Ok c) where
  well_formed : WellFormed d
  well_formed = (well_formed_exactly d).1 (ap is_ok e)

  -- the code is the one in the fields
  code_is : code_of d ≡ c
  unfolding describe_up_to
  code_is =
      let f : Ok (code_of d) ≡ Ok c = sym (refused_fine Err (Ok (code_of d)) _ (well_formed_fine d well_formed)) ∙ e in
      cc

  pub described : Described d c
  described =
      let w = well_formed in
      let en : get_or d 4 0 ≡ c.n = ap (λ (x : Code). x.n) code_is in
      let er : get_or d 5 0 ≡ c.r = ap (λ (x : Code). x.r) code_is in
      let ep : word d 6 ≡ c.polynomial = ap (λ (x : Code). x.polynomial) code_is in
      let es : start_of d ≡ c.start = ap (λ (x : Code). x.start) code_is in
      let ek : ones_in (mask_of d) - get_or d 5 0 ≡ c.k = ap (λ (x : Code). x.k) code_is in
      let l = w.laid in
      let size = mask_size l in
      record {
        coded = record {
          n_least = omega (arith, l.n_least);
          n_most = omega (arith, l.n_most);
          r_least = omega arith;
          r_most = omega arith;
          start_fits = subst₂ (λ (x y : ℕ). x < 2 ^ y) es er w.start_fits;
          mask_size = size ∙ ap (λ (x : ℕ). 2 ^ x) en;
          k_least = omega arith;
          K_is = omega arith;
          K_most = omega (arith, ones_le (mask_of d) (8 * length (mask_of d)), ap (λ (x : ℕ). 2 ^ x) en);
        };
        polynomial_odd = ap (λ (x : ℕ). bit x 0) (sym ep) ∙ w.polynomial_odd;
        polynomial_fits = subst₂ (λ (x y : ℕ). x < 2 ^ y) ep er w.polynomial_fits;
        header = l.header;
      }
