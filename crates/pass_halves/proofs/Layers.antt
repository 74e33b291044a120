-- The four loops that compute the values of a half: what a turn reads and stores, and what all turns leave.
use mathlib.Core.Path.{◌≡◌, refl, sym, ap, ap₂, ◌∙◌, subst}
use mathlib.Core.Bool.{Bool, true, false}
use mathlib.Core.List.{List, []}
use Prim.Native.Nat.{ℕ, ◌+◌, ◌^◌, ◌≤◌, ◌<◌}
use native.Mathlib.Omega.{arith}
use lib.IntN.{ℤ, pos, nat_abs}
use lib.ListN.{length, get_or, set, drop}
use Rattle.laws.specs.Clauses.{splice}
use mir.Syntax.{w32}
use mir.Val.{SFits}
use Rattle.laws.specs.Table.{table}
use Rattle.laws.proofs.Table.{length-table}
use Rattle.laws.proofs.Segment.{drop_past, drop-splice, length-splice, splice-nil}
use Rattle.laws.proofs.Signed.{back, back_is}
use Rattle.laws.proofs.Filling.{Filling, filling_none, filling_more, filling_done}
use Rattle.values.specs.Values.{f, g}
use Rattle.values.specs.Claims.{Within}
use Rattle.values.proofs.Bounds.{back-within}
use Rattle.pass_tree.specs.declared.Work.{Work}
use Rattle.pass_tree.specs.Node.{work_of}
use Rattle.pass_tree.specs.Clauses.{computed_unless, counted}
use Rattle.pass_tree.proofs.StepsMost.{same_steps}
use Rattle.pass_halves.specs.Clauses.{addable, ValuesPre, ValuesPost}

-- ---- what a turn reads

-- a and b, as the machine reads them, are the values of v at j and h + j
pub record Reads (v : List ℤ) (h j : ℕ) (a b : ℤ) : Type 0 where
  pub first : back w32 a ≡ get_or v j (pos 0)
  pub second : back w32 b ≡ get_or v (h + j) (pos 0)

pub addable_reads : {m h j : ℕ} {v : List ℤ} {a b : ℤ} → m ≤ addable → Within m v → Reads v h j a b → nat_abs (back w32 a) + nat_abs (back w32 b) < 2 ^ 31
addable_reads {h = h} {j} l p r = omega (arith, ap nat_abs r.first, p.at j, ap nat_abs r.second, p.at (h + j))

-- no turn overwrites the node's values
pub unchanged : {size h j : ℕ} {values : List ℤ → List ℤ} {work work' : List ℤ} {x : ℕ → ℤ} → ValuesPre size values h work → Filling x h h work work' j → values work' ≡ values work
unchanged {size} {h} {j} {values} {work} {work'} {x} p inv =
    let so_far : Filling x h j work work' j = record { reached = omega arith; same = inv.same; made = inv.made } in
    let room : h + j ≤ length work = omega (arith, p.whole, p.fits, inv.reached) in
    let stored : work' ≡ splice work h (table x j) = filling_done so_far (omega arith) room in
    let past : drop (h + j) work' ≡ drop (h + j) work =
    ap (drop (h + j)) stored ∙ drop-splice work h (table x j) j (length-table x j) room in
    p.apart work' (drop_past work work' (h + j) (h + h) (omega (arith, inv.reached)) past)

-- what `pair` reads
pub node_reads : {size h j : ℕ} {values : List ℤ → List ℤ} {work work' : List ℤ} {x : ℕ → ℤ} {a b : ℤ} → ValuesPre size values h work → Filling x h h work work' j → a ≡ get_or (values work') j (pos 0) → b ≡ get_or (values work') (h + j) (pos 0) → Reads (values work) h j a b
node_reads {h = h} {j} {values} {work} {work'} p inv ea eb = record { first = own j ea; second = own (h + j) eb }
  where
    own : (k : ℕ) {z : ℤ} → z ≡ get_or (values work') k (pos 0) → back w32 z ≡ get_or (values work) k (pos 0)
    own k e =
        ap (back w32) (e ∙ ap (λ (v : List ℤ). get_or v k (pos 0)) (unchanged p inv)) ∙ back-within p.small (omega arith) k

-- ---- the invariant: j values are stored, and counted

pub record Computing (x : ℕ → ℤ) (h : ℕ) (work work' : List ℤ) (steps j : ℕ) : Type 0 where
  pub filling : Filling x h h work work' j
  pub counted : steps ≡ j

-- the values of a half, from the node's values v
abbrev pub left_at : List ℤ → ℕ → ℕ → ℤ
left_at v h j = f (get_or v j (pos 0)) (get_or v (h + j) (pos 0))

abbrev pub right_at : List ℤ → List ℕ → ℕ → ℕ → ℤ
right_at v sums h j = g (get_or v j (pos 0)) (get_or v (h + j) (pos 0)) (get_or sums j 0)

pub computing_none : {x : ℕ → ℤ} {h : ℕ} {work : List ℤ} → Computing x h work work 0 0
computing_none = record { filling = filling_none; counted = refl }

module _ {h j steps : ℕ} {work work' : List ℤ} {z : ℤ} (fits : SFits w32 z) (l : j < h) where
  turn : {x : ℕ → ℤ} → Computing x h work work' steps j → z ≡ x j → Computing x h work (set work' (h + j) (back w32 z)) (steps + 1) (j + 1)
  turn inv e = record { filling = filling_more inv.filling (h + j) (back w32 z) l refl (back_is w32 z fits ∙ e); counted = omega (arith, inv.counted) }

  pub left-turn : {v : List ℤ} {a b : ℤ} → Computing (left_at v h) h work work' steps j → Reads v h j a b → z ≡ f (back w32 a) (back w32 b) → Computing (left_at v h) h work (set work' (h + j) (back w32 z)) (steps + 1) (j + 1)
  left-turn inv r e = turn inv (e ∙ ap₂ f r.first r.second)

  pub right-turn : (sums : List ℕ) {v : List ℤ} {a b : ℤ} {sum : ℕ} → Computing (right_at v sums h) h work work' steps j → Reads v h j a b → sum ≡ get_or sums j 0 → z ≡ g (back w32 a) (back w32 b) sum → Computing (right_at v sums h) h work (set work' (h + j) (back w32 z)) (steps + 1) (j + 1)
  right-turn sums inv r s e = turn inv (e ∙ (λ t. g (r.first t) (r.second t) (s t)))

-- all values of a half are computed
pub computed : {h j steps : ℕ} {work work' : List ℤ} {x : ℕ → ℤ} {done : Work} → Computing x h work work' steps j → h ≤ j → h + h ≤ length work → done ≡ counted steps → ValuesPost (table x h) h work work' done
computed {h} {j} {steps} {x = x} inv all fits of = record {
  stored = filling_done inv.filling all fits;
  counted = let e : steps ≡ length (table x h) = omega (arith, inv.counted, inv.filling.reached, length-table x h) in of ∙ same_steps e;
}

-- all values of a half that is not forced
pub computed-all : {forced : Bool} {h j steps : ℕ} {work work' : List ℤ} {x : ℕ → ℤ} {done : Work} → forced ≡ false → Computing x h work work' steps j → h ≤ j → h + h ≤ length work → done ≡ counted steps → ValuesPost (computed_unless forced (table x h)) h work work' done
computed-all {h = h} {work = work} {work' = work'} {x = x} {done = done} e inv all fits of =
    subst (λ (t : Bool). ValuesPost (computed_unless t (table x h)) h work work' done) (sym e) (computed inv all fits of)

-- no value of a half that is forced
pub computed-none : {forced : Bool} {h : ℕ} {work : List ℤ} {done : Work} (values : List ℤ) → forced ≡ true → done ≡ work_of [] → ValuesPost (computed_unless forced values) h work work done
computed-none {h = h} {work = work} {done = done} values e of =
    subst (λ (t : Bool). ValuesPost (computed_unless t values) h work work done) (sym e) (record { stored = sym (splice-nil work h); counted = of })

-- what a half's values leave of the array: its length, and all values above them
module _ {values work work' : List ℤ} {h : ℕ} {done : Work} (c : ValuesPost values h work work' done) (short : length values ≤ h) (fits : h + h ≤ length work) where
  pub computed-whole : length work' ≡ length work
  computed-whole = ap length c.stored ∙ length-splice work h values (length values) refl (omega arith)

  pub computed-kept : drop (h + h) work' ≡ drop (h + h) work
  computed-kept =
      ap (drop (h + h)) c.stored
      ∙ drop_past work _ (h + length values) (h + h) (omega arith) (drop-splice work h values (length values) refl (omega arith))
