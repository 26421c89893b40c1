use Rattle.std.proofs.Common.{ℕ, List, Option, true, false, arith, sym, take, ◌≡◌, ◌∙◌}
use Rattle.std.specs.Option.{option_copied}
use Rattle.std.proofs.lemmas.Bool.Decides.{nat_tests}
use Rattle.sp_rules.specs.Store.{free, is_of}
use Rattle.sp_rules.specs.declared.store.Entry.{Entry}
use Rattle.sp_store.proofs.ChosenLemmas.{best_kept, better_chosen, other_kept}
use Rattle.sp_store.proofs.FreeLemmas.{either_more, flying_more, free_more}
use Rattle.sp_store.proofs.PlaceLemmas.{live_more, live_same}
use Rattle.sp_store.specs.Places.{live}
use Rattle.sp_store.specs.Wanted.{choice}
use Rattle.sp_store.proofs.choice.chosen.Goals as goal
use Rattle.sp_store.proofs.choice.chosen.Goals.{in-Some+then-source-src+then-is_better+then-not-is_flying, in-Some+else-source-src}
use Rattle.sp_store.proofs.choice.chosen.Goals.{else-source-src-via-then-source-src+then-is_better+else-not-is_flying}
use Rattle.sp_store.proofs.choice.chosen.Goals.{else-source-src-via-then-source-src+else-is_better, else-source-src-via-else-source-src, in_default}

pub slots-preserved : goal.slots-preserved
slots-preserved c =
    let slots : List (Option Entry) = c.args.slots.now in
    let i : ℕ = c.slots.slot-index in
    let before : List Entry = live (take i slots) in
    let so_far : List Entry = free c.args.flight.now before in
    let best : Option Entry = option_copied c.slots.best in
    elim c.match-slot.branch [
      | in-Some+then-source-src+then-is_better+then-not-is_flying w ↦
          let e : Entry = w.in-Some.entry in
          let mine : is_of c.args.src e ≡ true = grind (arith, nat_tests, w.source.ensures, w.if-source-src.true) in
          let more = live_more slots i c.slot-item.result e (omega arith) c.slot-item.is w.in-Some.is in
          let stays = free_more c.args.flight.now before e (sym w.is_flying.ensures ∙ w.if-not-is_flying.true) in
          rw (w.best-is, more, stays) (better_chosen c.args.wanted so_far c.args.src e best mine c.slots.invariant
          (sym w.is_better.ensures ∙ w.if-is_better.true))
      | in-Some+else-source-src w ↦
          let e : Entry = w.in-Some.entry in
          let more = live_more slots i c.slot-item.result e (omega arith) c.slot-item.is w.in-Some.is in
          elim w.else-source-src.branch [
            | else-source-src-via-then-source-src+then-is_better+else-not-is_flying v ↦
                let flies = flying_more c.args.flight.now before e (sym v.is_flying.ensures ∙ v.if-not-is_flying.false) in
                rw (w.best-is, more, flies) c.slots.invariant
            | else-source-src-via-then-source-src+else-is_better v ↦
                let mine : is_of c.args.src e ≡ true = grind (arith, nat_tests, w.source.ensures, v.if-source-src.true) in
                rw (w.best-is, more) (either_more (λ (es : List Entry). best ≡ choice c.args.wanted es c.args.src) c.args.flight.now before e
                c.slots.invariant (best_kept c.args.wanted so_far c.args.src e best mine c.slots.invariant
                (sym v.is_better.ensures ∙ v.if-is_better.false)))
            | else-source-src-via-else-source-src v ↦
                let other : is_of c.args.src e ≡ false = grind (arith, nat_tests, w.source.ensures, v.if-source-src.false) in
                rw (w.best-is, more) (either_more (λ (es : List Entry). best ≡ choice c.args.wanted es c.args.src) c.args.flight.now before e
                c.slots.invariant (c.slots.invariant ∙ sym (other_kept c.args.wanted so_far c.args.src e other)))
          ]
      | in_default w ↦ rw (w.best-is, live_same slots i c.slot-item.result (omega arith) c.slot-item.is w.in_default.is) c.slots.invariant
    ]
