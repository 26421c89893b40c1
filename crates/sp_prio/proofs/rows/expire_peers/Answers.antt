use Rattle.std.proofs.Common.{arith, length, ◌∙◌}
use Rattle.std.proofs.lemmas.List.{length-map}
use Rattle.sp_msg.specs.declared.effect.Effect.TheVariants as effects
use Rattle.sp_msg.specs.declared.effect.Why.TheVariants as whys
use Rattle.sp_rules.specs.PrioPeer.{expired, expired_effects}
use Rattle.sp_rules.specs.Store.{expired_entries}
use Rattle.sp_rules.specs.declared.store.Entry.{Entry}
use Rattle.sp_prio.proofs.MappedLemmas.{mapped_all, mapped_read, mapped_set}
use Rattle.sp_prio.proofs.TellLemmas.{sum_next, tell_next}
use Rattle.sp_prio.proofs.rows.expire_peers.Goals as goal

pub expire-requires : goal.expire-requires
expire-requires c =
    let old = mapped_read (λ q. expired q c.args.now) c.peers.place c.args.peers.now.items c.peers.peers.items c.index_mut.result.now
    c.peers.invariant.peers c.index_mut.ensures.value in
    omega (
      arith,
      c.peers.invariant.room,
      sum_next (λ q. length (expired_entries q.store c.args.now)) c.args.peers.now.items c.peers.place c.index_mut.result.now (omega arith) old,
    )

pub peers-preserved : goal.peers-preserved
peers-preserved c =
    let old = mapped_read (λ q. expired q c.args.now) c.peers.place c.args.peers.now.items c.peers.peers.items c.index_mut.result.now
    c.peers.invariant.peers c.index_mut.ensures.value in
    record {
      peers = mapped_set (λ q. expired q c.args.now) c.peers.place c.args.peers.now.items c.peers.peers.items c.index_mut.result.now
          c.expire.new.self c.peers.invariant.peers (omega arith) c.index_mut.ensures.value c.expire.ensures.row;
      told = tell_next (λ q. expired_effects q.peer q.store c.args.now) c.peers.out c.expire.new.out c.args.peers.now.items c.peers.place
          c.index_mut.result.now (omega arith) old c.expire.ensures.told ∙ c.peers.invariant.told;
      room = rw c.expire.ensures.told (omega (
        arith,
        c.peers.invariant.room,
        length-map (expired_entries c.index_mut.result.now.store c.args.now) (λ (e : Entry). effects.Gone c.index_mut.result.now.peer e.id whys.Expired),
        sum_next (λ q. length (expired_entries q.store c.args.now)) c.args.peers.now.items c.peers.place c.index_mut.result.now (omega arith) old,
      ));
    }

pub returns-clause-peers : goal.returns-clause-peers
returns-clause-peers c = c.peers.invariant.peers ∙ mapped_all (λ q. expired q c.args.now) c.peers.place c.args.peers.now.items (omega arith)
