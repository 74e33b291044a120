-- Document 02, request 2.2: theorems on the sets that are tried, on the frames of `set_examples`. Every premise of a theorem is met, so none can become
-- one that nothing meets.
use mathlib.Core.Path.{◌≡◌, refl, sym, ap, ◌∙◌, subst}
use mathlib.Core.List.{List, [], ◌∷◌, map, Memᴰ}
use Prim.Native.Nat.{ℕ, ◌-◌, ◌<◌, ◌≤◌, ◌^◌}
use native.Mathlib.Omega.{arith}
use lib.IntN.{pos}
use lib.ListN.{length, get_or, take}
use Rattle.laws.specs.First.{first_where}
use Rattle.code.specs.Description.{mask_of}
use Rattle.values.specs.Values.{hard}
use Rattle.channel.specs.Channel.{channel_value, channel_values, first_outside}
use Rattle.flip_trial.specs.declared.Restart.TheVariants.{AfterFlip}
use Rattle.decoder.specs.Candidate.{Candidate, insert_each}
use Rattle.decoder.specs.Decoder.{sets, most_limit}
use Rattle.decoder.specs.Clauses.{search_of, leaves_of, generated_by, tried_by}
use Rattle.decoder.proofs.Decoder.{spelt_out}
use Rattle.decoder.proofs.Examples.{wide_d, wide_code, vector, pair_v, equal_v, used_up_v, ten, set_examples}
use Rattle.sets_tried.specs.Claims.{FlipSet, OwnDecisions, insert_all, tried_of_all, kept_after, LeastFirst, Singles}
use Rattle.sets_tried.proofs.Kept.{kept_few, kept_loses_nothing}
use Rattle.sets_tried.proofs.Sets.{flip_set_each, sets_distinct}
use Rattle.sets_tried.proofs.Least.{least_first}
use Rattle.sets_tried.proofs.Same.{tried-by}
use Rattle.sets_tried.proofs.Own.{own-decisions}
use Rattle.sets_tried.proofs.Singles.{singles}
use Rattle.decoder_demands.proofs.Metrics.{metrics_fit}

-- ---- the sets that are tried

-- the sets of restarted decoding on `used_up_v`
tried-ten : tried_by (search_of AfterFlip 2 512) (mask_of wide_d) wide_code (channel_values used_up_v) ≡ ten
tried-ten = tried-by (search_of AfterFlip 2 512) (mask_of wide_d) wide_code (channel_values used_up_v) ∙ (set_examples 0).used_up.2

-- of `ten` no two are equal
abbrev Differ : List (List ℕ) → Type 0
Differ tried = (a b : ℕ) → a < b → b < length tried → get_or tried a [] ≡ get_or tried b [] → ⊥

pub ten_differ : Differ ten
ten_differ = subst Differ tried-ten (sets_distinct (search_of AfterFlip 2 512) (mask_of wide_d) wide_code (channel_values used_up_v))

-- each ascends, of one or two information indices
abbrev EachFlips : List (List ℕ) → Type 0
EachFlips tried = (a : ℕ) → a < length tried → FlipSet (mask_of wide_d) 8 2 (get_or tried a [])

pub ten_flip : EachFlips ten
ten_flip = subst EachFlips tried-ten (flip_set_each (search_of AfterFlip 2 512) (mask_of wide_d) wide_code (channel_values used_up_v))

-- the sets of restarted decoding on `equal_v`
tried_equal : tried_by (search_of AfterFlip 2 4) (mask_of wide_d) wide_code (channel_values equal_v) ≡ (3 ∷ []) ∷ (3 ∷ 6 ∷ []) ∷ (5 ∷ []) ∷ []
tried_equal = tried-by (search_of AfterFlip 2 4) (mask_of wide_d) wide_code (channel_values equal_v) ∙ (set_examples 0).by_first_entry.2

-- what failed trials on `equal_v` generate, with w = 2 and T = 4
abbrev generate_on : List ℕ → List Candidate
generate_on = generated_by (search_of AfterFlip 2 4) (mask_of wide_d) wide_code (channel_values equal_v)

-- a search that keeps every untried set tries the same ones
pub keeping_all : tried_of_all generate_on 3 (insert_all (generate_on []) []) ≡ (3 ∷ []) ∷ (3 ∷ 6 ∷ []) ∷ (5 ∷ []) ∷ []
keeping_all = sym (kept_loses_nothing (search_of AfterFlip 2 4) (mask_of wide_d) wide_code (channel_values equal_v)) ∙ tried_equal

-- when all three sets have been tried, none is kept
pub none_kept : length (kept_after generate_on 3 3 (insert_each 3 (generate_on []) [])) ≡ 0
none_kept = omega (arith, kept_few generate_on 3 3)

-- with w = 1 the sets are the information indices, sorted by metric: on V 3, 5, 6 and 7
pub singles_on_vector : Singles (mask_of wide_d) wide_code (channel_values vector)
singles_on_vector = singles (mask_of wide_d) wide_code (channel_values vector)

pub singles_are : map (λ i. i ∷ []) (take 4 singles_on_vector.is) ≡ (3 ∷ []) ∷ (5 ∷ []) ∷ (6 ∷ []) ∷ (7 ∷ []) ∷ []
singles_are = sym (singles_on_vector.sets_are AfterFlip 5) ∙ tried-by (search_of AfterFlip 1 5) (mask_of wide_d) wide_code (channel_values vector) ∙ (set_examples 0).by_metric.1

-- of the untried sets the least is tried first, on `equal_v` three times: when [3] has been tried, that is [3, 6]
pub least_on_equal : (t : ℕ) → t < 3 → LeastFirst (search_of AfterFlip 2 4) (mask_of wide_d) wide_code (channel_values equal_v) t
least_on_equal t l = least_first (search_of AfterFlip 2 4) (mask_of wide_d) wide_code (channel_values equal_v) t (omega (arith, ap length tried_equal))

pub least_after_3 : (least_on_equal 1 (omega arith)).next.flips ≡ 3 ∷ 6 ∷ []
least_after_3 = sym (least_on_equal 1 (omega arith)).tries ∙ ap (λ (tried : List (List ℕ)). get_or tried 1 []) tried_equal

-- ---- one trial

-- The trial of [3, 5] takes the opposite of its own decisions. At 5 the opposite is 0, where trial 1 decides 0 too.
pub pair_decides : OwnDecisions AfterFlip (mask_of wide_d) wide_code (channel_values pair_v) (3 ∷ 5 ∷ [])
pair_decides = own-decisions AfterFlip (mask_of wide_d) wide_code (channel_values pair_v) (3 ∷ 5 ∷ []) (ten_flip 1 (omega arith)).flips

pub opposite_at_5 : 1 - hard (get_or (leaves_of AfterFlip (mask_of wide_d) wide_code (channel_values pair_v) (3 ∷ 5 ∷ [])) 5 (pos 0)) ≡ 0
opposite_at_5 = sym (pair_decides.flipped 5 (omega arith) refl) ∙ ap (λ (bits : List ℕ). get_or bits 5 0) (set_examples 0).by_own_trial.6

-- ---- metrics

pair_inside : first_outside pair_v ≡ 8
unfolding first_where channel_value
pair_inside = refl

-- no metric exceeds 32 bits
pub pair_metrics_fit : (w T byte : ℕ) → 1 ≤ w → w ≤ 3 → 1 ≤ T → T ≤ most_limit w wide_code → (is : List ℕ) (x : Candidate) → Memᴰ x (generated_by (search_of AfterFlip w T) (mask_of wide_d) wide_code (channel_values pair_v) is) → x.metric < 2 ^ 32
pair_metrics_fit w T byte w-least w-most least most =
    metrics_fit AfterFlip w T wide_d wide_code pair_v (byte ∷ []) (record {
      described = (set_examples 0).described;
      fine = (spelt_out (sets w T) wide_code pair_v (byte ∷ [])).0 (record { channel_size = refl; in_range = pair_inside; allowed = (w-least, w-most, least, most); output_size = refl });
    })
