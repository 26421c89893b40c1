use Rattle.std.proofs.Common.{arith, ap, length, ◌∙◌, sym}
use Rattle.sp_store.specs.Leaving.{leaves}
use Rattle.sp_prio.proofs.TellLemmas.{all_left, one_left, others_stay, told_all, told_left}
use Rattle.sp_prio.proofs.place.leave_all.Goals as goal

pub push-requires : goal.push-requires
push-requires c =
    omega (
      arith,
      ap length (one_left (leaves c.args.leaving.now) c.entries.store c.leave.new.self c.in-Some.entry c.in-Some.ensures.entry
          c.leave.ensures.store),
      c.entries.invariant.room,
    )

pub entries-smaller : goal.entries-smaller
entries-smaller c = omega (
  arith,
  ap length (one_left (leaves c.args.leaving.now) c.entries.store c.leave.new.self c.in-Some.entry c.in-Some.ensures.entry
      c.leave.ensures.store),
)

pub entries-preserved : goal.entries-preserved
entries-preserved c = record {
  store = others_stay (leaves c.args.leaving.now) c.entries.store c.leave.new.self c.leave.ensures.store ∙ c.entries.invariant.store;
  told = told_left (leaves c.args.leaving.now) c.args.why c.entries.out c.push.new.self c.entries.store c.leave.new.self c.args.place c.in-Some.entry
      c.in-Some.ensures.entry
      c.leave.ensures.store c.push.ensures ∙ c.entries.invariant.told;
  room =
      let longer =
      ap length (one_left (leaves c.args.leaving.now) c.entries.store c.leave.new.self c.in-Some.entry c.in-Some.ensures.entry c.leave.ensures.store) in
      rw c.push.ensures (omega (arith, longer, c.entries.invariant.room));
}

pub returns-clause-store : goal.returns-clause-store
returns-clause-store c =
    all_left (leaves c.args.leaving.now) c.entries.store c.leave.new.self c.in_default.ensures.entry c.leave.ensures.store ∙ c.entries.invariant.store

pub returns-clause-told : goal.returns-clause-told
returns-clause-told c =
    sym (told_all (leaves c.args.leaving.now) c.args.why c.entries.out c.entries.store c.args.place c.in_default.ensures.entry) ∙ c.entries.invariant.told
