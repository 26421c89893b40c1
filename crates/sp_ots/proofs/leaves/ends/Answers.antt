use Rattle.std.proofs.Common.{◌≡◌, ◌+◌, ◌<◌, ℕ, [], get_or, ap, ◌∙◌, arith}
use Rattle.sp_ots.specs.Lanes.{lanes}
use Rattle.sp_ots.specs.Leaves.{end_of_start}
use Rattle.sp_ots.proofs.EachLeaf.{digest_at, first_elements, next_elements}
use Rattle.sp_ots.proofs.leaves.ends.Goals as goal

pub steps-init : goal.steps-init
steps-init c =
    let messages = c.start_messages-messages.result in
    let first = λ (k : ℕ) (lt : k < lanes).
    first_elements c.args.id.now (c.args.q + k) c.args.i c.args.seed.now (get_or messages k []) (get_or c.digests-elements.result k []) c.told-id
    (c.start_messages-messages.ensures k lt) (digest_at messages c.digests-elements.result k (omega arith) c.digests-elements.ensures) in
    record { front = λ k lt. (first k lt).0; element = λ k lt. (first k lt).1 }

pub steps-preserved : goal.steps-preserved
steps-preserved c =
    let messages = c.renew_all.new.messages in
    let next = λ (k : ℕ) (lt : k < lanes).
    next_elements c.args.id.now (c.args.q + k) c.args.i c.steps.j c.args.seed.now (get_or c.steps.messages k []) (get_or messages k [])
    (get_or c.steps.elements k []) (get_or c.digests-elements-in-steps.result k []) c.told-id (c.steps.invariant.front k lt) (c.steps.invariant.element k lt)
    (c.renew_all.ensures k lt)
    (digest_at messages c.digests-elements-in-steps.result k (omega (arith, c.renew_all.array_long)) c.digests-elements-in-steps.ensures) in
    record { front = λ k lt. (next k lt).0; element = λ k lt. (next k lt).1 }

pub returns : goal.returns
returns c = λ k lt.
    let done : c.steps.j ≡ c.args.last = omega arith in
    c.steps.invariant.element k lt ∙ ap (λ (j : ℕ). end_of_start c.args.id.now (c.args.q + k) c.args.i j c.args.seed.now) done
