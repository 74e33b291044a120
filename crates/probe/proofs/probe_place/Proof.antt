-- `probe::probe_place` meets its contract.
use mathlib.Core.Path.{◌≡◌, sym, ap₂, ◌∙◌}
use mathlib.Core.Bool.{true}
use mathlib.Core.List.{List}
use Prim.Native.Nat.{ℕ, ◌*◌, ◌≤◌}
use native.Mathlib.Omega.{arith}
use borrow.Author.Rules.{rules}
use borrow.Author.Tests.{lt-ltb, le-ltb}
use lib.ListN.{length}
use Rattle.arrays.specs.Claims.{longest_bytes}
use Rattle.probe.specs.Clauses.{all_bits}
use Rattle.probe.proofs.AllBits.{all-bits}
use Rattle.probe.proofs.probe_place.Statement.{statement}
use Rattle.probe.proofs.probe_place.Tie as tie

-- the mask is no longer than that of the longest code
short : (c : tie.Else-mask-gt-BYTES) → length c.args.mask.now ≤ longest_bytes
short c = omega (arith, c.if-mask-gt-BYTES.false)

-- there is a bit for each index
room : (c : tie.Else-message-mask) → 8 * length c.args.mask.now ≤ length c.args.message.now
room c = omega arith

are-bits : (c : tie.Else-not-are_bits) → all_bits c.args.message.now ≡ true
are-bits c = sym c.are_bits.ensures ∙ c.if-not-are_bits.false

returns-3 : tie.Need-returns-then-message-mask
returns-3 c =
    rw (le-ltb _ _ (short c.before.before), le-ltb _ _ c.if-u-mask.false, lt-ltb (length c.args.message.now) (8 * length c.args.mask.now) (omega arith))

returns-4 : tie.Need-returns-then-not-are_bits
returns-4 c =
    rw (le-ltb _ _ (short c.before.before.before.before), le-ltb _ _ c.if-u-mask.false, le-ltb _ _ (room c.before.before), sym c.are_bits.ensures ∙ c.if-not-are_bits.true)

place-requires : tie.Need-place-requires
place-requires c κs =
    let b = c.before in
    let e = b.before.before in
    (record { short = short e.before.before; room = room e; bits = all-bits _ (are-bits b) }, e.if-u-mask.false)

returns-5 : tie.Need-returns
returns-5 c =
    rw (le-ltb _ _ (short c.before.before.before.before.before.before.before.before), le-ltb _ _ c.if-u-mask.false, le-ltb _ _ (room c.before.before.before.before.before.before), are-bits c.before.before.before.before)
    (ap₂ (λ (x : ℕ) (u : List ℕ). (x, u)) c.place.ensures.0 c.place.ensures.1)

pub probe_place_spec : {M : Type 1} → statement M
probe_place_spec =
    tie.close
    (tie.spec
    (λ c. rw (lt-ltb longest_bytes _ c.if-mask-gt-BYTES.true))
    (λ c. rw (le-ltb _ _ (short c.before), lt-ltb _ _ c.if-u-mask.true))
    returns-3
    (λ c κs. search rules)
    returns-4
    place-requires
    (λ c. search rules)
    returns-5)
