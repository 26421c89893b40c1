use Rattle.std.proofs.Common.{ℕ, ◌≡◌, ◌<◌, ◌^◌, arith, cond, ◌∙◌, ap, refl, vec_capacity}
use Rattle.std.specs.Prelude.{count_by}
use Rattle.sp_msg.specs.Masks.{bits}
use Rattle.sp_rules.specs.PrioPeer.{given, given_effects, goes_to}
use Rattle.sp_prio.proofs.MappedLemmas.{mapped_all, mapped_holds, mapped_read, mapped_set}
use Rattle.sp_prio.specs.Given.{goes_along}
use Rattle.sp_prio.proofs.BesideLemmas.{alike_with}
use Rattle.sp_prio.proofs.TellLemmas.{given_few, sum_next, tell_next}
use Rattle.sp_prio.proofs.rows.spread.Goals as goal

pub give-requires-clause-enough : goal.give-requires-clause-enough
give-requires-clause-enough c =
    let old = mapped_read (given c.args.kept c.args.came) c.peers.place c.args.peers.now.items c.peers.peers.items c.index_mut.result.now
    c.peers.invariant.peers c.index_mut.ensures.value in
    let along : ◌≡◌ {A = ℕ} (cond (goes_along (bits c.mask_of-mask.result) c.args.came c.index_mut.result.now) 1 0)
    (cond (goes_to c.args.kept.body c.args.came c.index_mut.result.now) 1 0) =
    ap (λ (m : ℕ). cond (goes_along m c.args.came c.index_mut.result.now) 1 0) c.mask_of-mask.ensures in
    omega (
      arith,
      along,
      c.peers.invariant.count,
      sum_next (λ q. cond (goes_to c.args.kept.body c.args.came q) 1 0) c.args.peers.now.items c.peers.place c.index_mut.result.now (omega
          arith) old,
    )

pub give-requires-clause-last : goal.give-requires-clause-last
give-requires-clause-last c =
    mapped_holds (λ q. q.store.last < 2 ^ 63)
    (given c.args.kept c.args.came) c.peers.place c.args.peers.now.items c.peers.peers.items c.index_mut.result.now c.peers.invariant.peers
    c.index_mut.ensures.value (omega arith) c.requires.stores

pub peers-preserved : goal.peers-preserved
peers-preserved c =
    let old = mapped_read (given c.args.kept c.args.came) c.peers.place c.args.peers.now.items c.peers.peers.items c.index_mut.result.now
    c.peers.invariant.peers c.index_mut.ensures.value in
    let along : ◌≡◌ {A = ℕ} (cond (goes_along (bits c.mask_of-mask.result) c.args.came c.index_mut.result.now) 1 0)
    (cond (goes_to c.args.kept.body c.args.came c.index_mut.result.now) 1 0) =
    ap (λ (m : ℕ). cond (goes_along m c.args.came c.index_mut.result.now) 1 0) c.mask_of-mask.ensures in
    let done = c.give.ensures.given c.args.kept c.mask_of-mask.ensures c.peers.invariant.alike in
    record {
      peers = mapped_set (given c.args.kept c.args.came) c.peers.place c.args.peers.now.items c.peers.peers.items c.index_mut.result.now
          c.give.new.peer c.peers.invariant.peers (omega arith) c.index_mut.ensures.value done.peer;
      told = tell_next (given_effects c.args.kept c.args.came) c.peers.out c.give.new.out c.args.peers.now.items c.peers.place
          c.index_mut.result.now (omega arith) old done.told_is ∙ c.peers.invariant.told;
      alike = done.alike;
      count = omega (
        arith,
        along,
        c.give.ensures.fewer,
        c.peers.invariant.count,
        sum_next (λ q. cond (goes_to c.args.kept.body c.args.came q) 1 0) c.args.peers.now.items c.peers.place c.index_mut.result.now (omega
            arith) old,
      );
      room = rw done.told_is (omega (arith, c.peers.invariant.room, given_few c.args.kept c.args.came c.index_mut.result.now));
    }

pub peers-init : goal.peers-init
peers-init c =
    let all = alike_with c.args.kept (count_by (goes_to c.args.kept.body c.args.came) c.args.peers.now.items) (vec_capacity c.args.beside)
    c.args.beside.items c.push_in_room.new.items.items c.requires.beside c.push_in_room.ensures.items in
    record { peers = refl; told = refl; alike = all.0; count = all.1; room = omega (arith, c.requires.room) }

pub returns-clause-peers : goal.returns-clause-peers
returns-clause-peers c = c.peers.invariant.peers ∙ mapped_all (given c.args.kept c.args.came) c.peers.place c.args.peers.now.items (omega arith)
