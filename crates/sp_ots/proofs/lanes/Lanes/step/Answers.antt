use Rattle.std.proofs.Common.{◌≡◌, ℕ, ◌+◌, ◌-◌, ◌++◌, ◌<◌, List, [], length, map, take, drop, set, get_or, sym, ap, ◌∙◌, arith}
use Rattle.std.proofs.lemmas.Grind.{drop_more_same}
use Rattle.std.proofs.lemmas.List.{get_or-map, get_or_default, set-get_or}
use Rattle.std.proofs.lemmas.List.Edits.{map_over_more}
use Rattle.sha2.specs.Sha256.{sha256}
use Rattle.sp_ots.proofs.Places.{rest_first}
use Rattle.sp_ots.proofs.lanes.Lanes.step.Goals as goal
use Rattle.sp_ots.proofs.lanes.Lanes.step.Goals.{then-self-k-gt0, else-self-k-gt0}

pub lanes-preserved : goal.lanes-preserved
lanes-preserved c =
    let k = c.lanes.k in
    let now = c.lanes.self in
    let was = c.args.self.now in
    let held = c.lanes.invariant in
    let within : k < length was.left = omega arith in
    let fewer : set now.left k (get_or now.left k 0 - 1) ≡ map (λ n. n - 1) (take (k + 1) was.left) ++ drop (k + 1) was.left =
    map_over_more (λ n. n - 1) was.left now.left k (get_or now.left k 0) within held.left (get_or_default now.left k 0 (get_or now.left k 0) (omega arith)) in
    let rest = drop_more_same now.messages was.messages k held.messages in
    elim c.if-self-k-gt0.branch [
      | then-self-k-gt0 w ↦ rw (w.self-is, w.elements-is) (record {
        under_way = λ front from old long u.
            let read = get_or-map sha256 was.messages k [] [] (omega (arith, u.messages)) in
            let digest =
            ap (λ (ds : List (List ℕ)). get_or ds k []) c.digests-next.ensures ∙ read
            ∙ ap sha256 (sym (rest_first was.messages now.messages k [] held.messages)) in
            w.advance.ensures.under_way front from old long digest (held.under_way front from old long u);
        whole = omega arith;
        sound = w.advance.ensures.sound;
        most = w.advance.ensures.most ∙ held.most;
        next = w.advance.ensures.next ∙ held.next;
        left = w.advance.ensures.left ∙ fewer;
        messages = w.advance.ensures.messages ∙ rest;
      })
      | else-self-k-gt0 w ↦ rw (w.self-is, w.elements-is) (record {
        under_way = held.under_way;
        whole = held.whole;
        sound = held.sound;
        most = held.most;
        next = held.next;
        left =
            let none : get_or now.left k 0 ≡ get_or now.left k 0 - 1 = omega arith in
            sym (set-get_or now.left k 0) ∙ ap (set now.left k) none ∙ fewer;
        messages = rest;
      })
    ]
