-- Document 02, request 2.3: "The inner bound is 31 · 2^n at a leaf, up to 126,976." `inner_bound` of proofs/Inner.antt proves it.
use Rattle.std.specs.Prelude.{◌≡◌, List, [], ℕ, ◌-◌, ◌*◌, ◌^◌, ◌≤◌, pos, nat_abs, length, get_or, replicate, Ok}
use Rattle.arrays.specs.Sizes.{largest_n}
use Rattle.code.specs.declared.Code.{Code}
use Rattle.code.specs.Code.{code_length}
use Rattle.code.specs.Description.{describe}
use Rattle.values.specs.Values.{Rule, mask_rule}
use Rattle.channel.specs.Channel.{channel_values, first_outside}
use Rattle.pass_tree.specs.Node.{node}

-- the bound on leaf values
pub record InnerBound : Type 0 where
  -- no leaf has a larger magnitude, in a pass under any code, on values that 12 and 13 allow, with any bits forced and by any rules
  pub bounded :
      (d : List ℕ) (c : Code) (channel prefix : List ℕ) (rule : ℕ → Rule) (i : ℕ) → describe d ≡ Ok c → length channel ≡ code_length c
      → first_outside channel ≡ length channel → nat_abs (get_or (node c.n prefix rule (channel_values channel)).leaves i (pos 0)) ≤ 31 * 2 ^ c.n
  -- N values of 31 reach it at index N − 1, under every n and every mask
  pub reached : (n : ℕ) (mask : List ℕ) → get_or (node n [] (mask_rule mask) (channel_values (replicate (2 ^ n) 31))).leaves (2 ^ n - 1) (pos 0) ≡ pos (31 * 2 ^ n)
  -- at the largest n
  pub largest : 31 * 2 ^ largest_n ≡ 126976
