use Rattle.std.proofs.Common.{◌≡◌, ◌+◌, ◌-◌, ◌*◌, ◌++◌, List, ℕ, length, take, drop, ap, ◌∙◌, arith, length-drop}
use Rattle.std.proofs.lemmas.List.{length-take-le}
use Rattle.sp_ots.proofs.Cuts.{block_of_parts, written_behind}
use Rattle.sp_ots.proofs.long.block_at.Goals as goal

pub returns : goal.returns
returns c =
    let m = c.args.message.now in
    let p = c.args.behind.now in
    let first = c.copy_from_slice.new.self in
    let second = c.copy_from_slice-2.new.self in
    let start = c.min-start.result in
    let end = c.min-end.result in
    let from = c.saturating_sub-from.result in
    let lo = c.min-start.ensures in
    let hi = c.min-end.ensures in
    let past = c.saturating_sub-from.ensures in
    let whole = c.requires.block in
    let long_first : length first ≡ end - start =
    ap length c.copy_from_slice.ensures.after ∙ length-take-le (end - start) (drop start m) (omega (arith, lo, hi, past, whole, length-drop start m)) in
    let long_second : length second ≡ 64 - (end - start) =
    ap length c.copy_from_slice-2.ensures.after
    ∙ length-take-le (from + 64 - (end - start) - from) (drop from p) (omega (arith, lo, hi, past, whole, length-drop from p))
    ∙ omega (arith, lo, hi, past, whole) in
    let parts = block_of_parts m p first second c.args.n start end from
    (λ l. omega (arith, lo, hi, past, whole, l)) (λ l. omega (arith, lo, hi, past, whole, l)) (λ l. omega (arith, lo, hi, past, whole, l))
    (λ l. omega (arith, lo, hi, past, whole, l)) (omega (arith, lo, hi, past, whole))
    c.copy_from_slice.ensures.after c.copy_from_slice-2.ensures.after in
    written_behind first second (end - start) long_first (omega (arith, lo, hi, past, whole)) long_second
    ∙ parts ∙ ap (λ (ps : List ℕ). take 64 (drop (c.args.n * 64) (m ++ ps))) c.requires.behind
