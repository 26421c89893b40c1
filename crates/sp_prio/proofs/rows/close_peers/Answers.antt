use Rattle.std.proofs.Common.{arith, length, ◌∙◌}
use Rattle.std.proofs.lemmas.List.{length-map}
use Rattle.sp_msg.specs.declared.effect.Effect.TheVariants as effects
use Rattle.sp_msg.specs.declared.effect.Why.TheVariants as whys
use Rattle.sp_rules.specs.PrioPeer.{closed, closed_effects, leaves}
use Rattle.sp_rules.specs.Store.{leavers}
use Rattle.sp_rules.specs.Topologies.{is_shut}
use Rattle.sp_rules.specs.declared.store.Entry.{Entry}
use Rattle.sp_prio.proofs.MappedLemmas.{mapped_all, mapped_read, mapped_set}
use Rattle.sp_prio.proofs.TellLemmas.{few_leave, sum_next, tell_next}
use Rattle.sp_prio.proofs.rows.close_peers.Goals as goal

pub close-requires : goal.close-requires
close-requires c =
    let old = mapped_read (closed c.args.weights.now c.args.removed.now) c.peers.place c.args.peers.now.items c.peers.peers.items c.index_mut.result.now
    c.peers.invariant.peers c.index_mut.ensures.value in
    omega (
      arith,
      c.peers.invariant.room,
      sum_next (λ q. length q.store.entries) c.args.peers.now.items c.peers.place c.index_mut.result.now (omega arith) old,
    )

pub peers-preserved : goal.peers-preserved
peers-preserved c =
    let weights = c.args.weights.now in
    let removed = c.args.removed.now in
    let q = c.index_mut.result.now in
    let old = mapped_read (closed weights removed) c.peers.place c.args.peers.now.items c.peers.peers.items q c.peers.invariant.peers
    c.index_mut.ensures.value in
    let going = leaves (is_shut weights q.edge) removed in
    record {
      peers = mapped_set (closed weights removed) c.peers.place c.args.peers.now.items c.peers.peers.items q c.close.new.self c.peers.invariant.peers
          (omega arith) c.index_mut.ensures.value c.close.ensures.row;
      told = tell_next (closed_effects weights removed) c.peers.out c.close.new.out c.args.peers.now.items c.peers.place q (omega arith) old
          c.close.ensures.told ∙ c.peers.invariant.told;
      room = rw c.close.ensures.told (omega (
        arith,
        c.peers.invariant.room,
        length-map (leavers going q.store) (λ (e : Entry). effects.Gone q.peer e.id whys.Withdrawn),
        few_leave going q.store,
        sum_next (λ r. length r.store.entries) c.args.peers.now.items c.peers.place q (omega arith) old,
      ));
    }

pub returns-clause-peers : goal.returns-clause-peers
returns-clause-peers c =
    c.peers.invariant.peers ∙ mapped_all (closed c.args.weights.now c.args.removed.now) c.peers.place c.args.peers.now.items (omega arith)
