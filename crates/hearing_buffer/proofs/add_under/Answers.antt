-- `hearing_buffer::add_under` meets its contract: refusals 12, 13 and 27, then the sums in place.
use Rattle.std.proofs.Common.{◌≡◌, sym, ap, ◌∙◌, arith, true, List, ◌∷◌, ◌++◌, ℕ, ◌+◌, ◌≤◌, ◌<◌, length, get_or, take, Ok}
use Rattle.refusal.specs.Judge.{judge, refused_or}
use Rattle.refusal.proofs.Passed.{passed_on}
use Rattle.arrays.specs.Sizes.{largest_n}
use Rattle.code.specs.declared.Code.{Code}
use Rattle.code.specs.Code.{longest_description}
use Rattle.hearing.specs.Hearing.{Hearing, added_to, add_refusals, is_hearing}
use Rattle.hearing.specs.Clauses.{hearing_by}
use Rattle.hearing.proofs.Adding.{count_most, not_full, add_pre, sums_are}
use Rattle.hearing_state.specs.State.{State, code_of_state, refused_in, with_hearing}
use Rattle.hearing_state.specs.Clauses.{state_by}
use Rattle.hearing_state.proofs.States.{code-most, is_hearing_lem}
use Rattle.hearing_buffer.specs.Lent.{hearing_size, state_in, answer_in}
use Rattle.hearing_buffer.proofs.InPlace.{code-size, part, parts, state_parts, added-bytes}
use Rattle.hearing_buffer.proofs.add_under.Goals as goal
use Rattle.refusal.specs.Clauses.{Judgement}
use Rattle.hearing_buffer.specs.Clauses.{Kept}

-- a buffer whose state has this code
module _ (code : Code) (b channel : List ℕ) (has : code_of_state (state_in b) ≡ Ok code) where
  size : length b ≡ hearing_size
  size = code-size b code has

  abbrev count : ℕ
  count = get_or b longest_description 0

  -- the hearing, by its parts as they are lent
  abbrev h : Hearing
  h = hearing_by count (part b size)

  abbrev state : State
  state = state_by (take longest_description b) count (part b size)

  coded : code_of_state state ≡ Ok code
  coded = ap code_of_state (state_parts b size) ∙ has

  n_most : code.n ≤ largest_n
  n_most = code-most state code coded

  hears : is_hearing code h ≡ true
  hears = is_hearing_lem state code coded

  -- the answer and the bytes, by the judgement
  abbrev by : State → Judgement → Kept × List ℕ
  by t j = answer_in (refused_or j (refused_in t) (Ok tt, with_hearing t (added_to code t.hearing channel))) b

  -- the state by its parts is that in the buffer
  judged : {j : Judgement} → judge (add_refusals code count channel) ≡ j → by state j ≡ by (state_in b) (judge (add_refusals code (state_in b).hearing.count channel))
  judged e = sym (ap (by state) e) ∙ ap (λ (t : State). by t (judge (add_refusals code t.hearing.count channel))) (state_parts b size)

  room : judge (add_refusals code count channel) ≡ Ok tt → count < 255
  room fine = not_full code count channel fine (count_most code h hears)

pub bounds-buffer-at : goal.bounds-buffer-at
bounds-buffer-at c = omega (arith, size c.args.code c.args.buffer.now c.args.channel.now c.requires)

pub judge_add-requires : goal.judge_add-requires
judge_add-requires c = n_most c.args.code c.args.buffer.now c.args.channel.now c.requires

pub returns-in_err-judge_add : goal.returns-in_err-judge_add
unfolding refused_or
returns-in_err-judge_add c =
    let x = c.args in
    ap (λ (r : Kept). (r, x.buffer.now)) (passed_on _ _ c.from_residual.ensures)
    ∙ judged x.code x.buffer.now x.channel.now c.requires (sym c.judge_add.ensures ∙ c.in_err-judge_add.was)

pub add_values-requires : goal.add_values-requires
add_values-requires c =
    let x = c.args in
    let b = x.buffer.now in
    add_pre x.code (h x.code b x.channel.now c.requires) x.channel.now (n_most x.code b x.channel.now c.requires) (parts b (size x.code b x.channel.now c.requires)).values_size
    (hears x.code b x.channel.now c.requires) (sym c.judge_add.ensures ∙ c.in_ok-judge_add.was)

pub slice_bounds-add_values-count : goal.slice_bounds-add_values-count
slice_bounds-add_values-count c = omega (arith, size c.args.code c.args.buffer.now c.args.channel.now c.requires)

pub slice_bounds-add_values-start : goal.slice_bounds-add_values-start
slice_bounds-add_values-start c = omega (arith, size c.args.code c.args.buffer.now c.args.channel.now c.requires)

pub overflow_add-buffer : goal.overflow_add-buffer
overflow_add-buffer c = record {
  fits = omega (arith, room c.args.code c.args.buffer.now c.args.channel.now c.requires (sym c.judge_add.ensures ∙ c.in_ok-judge_add.was));
}

pub bounds-buffer-at-2 : goal.bounds-buffer-at-2
bounds-buffer-at-2 c = omega (arith, size c.args.code c.args.buffer.now c.args.channel.now c.requires)

pub overflow_add-result : goal.overflow_add-result
overflow_add-result c = record {
  fits = omega (arith, room c.args.code c.args.buffer.now c.args.channel.now c.requires (sym c.judge_add.ensures ∙ c.in_ok-judge_add.was));
}

pub returns : goal.returns
unfolding refused_or
returns c =
    let x = c.args in
    let b = x.buffer.now in
    let fine = sym c.judge_add.ensures ∙ c.in_ok-judge_add.was in
    let n = count x.code b x.channel.now c.requires in
    let long = size x.code b x.channel.now c.requires in
    let sums = c.add_values.ensures ∙ sums_are x.code (h x.code b x.channel.now c.requires) x.channel.now (n_most x.code b x.channel.now c.requires) (parts b long).values_size
    (hears x.code b x.channel.now c.requires) fine in
    ap (λ (l : List ℕ). (Ok (n + 1), l)) (added-bytes b long _ (n + 1) ∙ ap (λ (v : List ℕ). take longest_description b ++ ((n + 1) ∷ v)) sums)
    ∙ judged x.code b x.channel.now c.requires fine
