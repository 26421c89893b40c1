-- The worked stories are computed.
use Rattle.std.proofs.Common.{◌≡◌, ◌<◌, ◌≤◌, ℕ, List, [], ◌∷◌, refl, take, arith}
use Rattle.std.proofs.lemmas.List.Elements.{All-cons, All-nil}
use Rattle.sp_base.specs.Spelling.{AreBytes}
use Rattle.sp_base.specs.declared.id.NodeId.{NodeId}
use Rattle.laws_node.specs.Story.{node}
use Rattle.sp_runs.specs.Runs.{IsMade, Starts, polls}
use Rattle.sp_schedule_events.specs.declared.event.Event.{Event}
use Rattle.laws_runs.proofs.Plays.{AreInRange, plays_are_clean}
use Rattle.sp_base.specs.Reading.{number_at}
use Rattle.sp_msg.specs.Bodies.{body_at_in, of_fields, read_body_in}
use Rattle.sp_msg.specs.Fields.{field_at}
use Rattle.sp_rules.specs.Store.{ids}
use Rattle.laws_runs.specs.Story.{StoriesArePlayed, begins, line, message}

two_bytes : AreBytes (104 ∷ 105 ∷ [])
two_bytes = All-cons (λ (b : ℕ). b < 256) 104 (105 ∷ []) (omega arith) (All-cons (λ (b : ℕ). b < 256) 105 [] (omega arith) (All-nil (λ (b : ℕ). b < 256)))

made : (es : List Event) (u v : NodeId) (number : ℕ) → polls es u v ≡ number → 1 ≤ number → IsMade es u v number
made es u v number count some = (some, omega (arith, count))

in_range : AreInRange (line []) [] message
in_range = (
  record { fields = (refl, refl, omega arith, two_bytes); may = refl },
  tt,
  (
    record { fields = (refl, refl); may = refl },
    tt,
    (
      record { fields = (refl, refl, refl, made (take 2 message) (node 2) (node 1) 1 refl (omega arith)); may = refl },
      tt,
      (
        record { fields = (refl, refl); may = refl },
        tt,
        (
          record { fields = (refl, refl, refl, made (take 4 message) (node 1) (node 2) 1 refl (omega arith)); may = refl },
          tt,
          (
            record { fields = (refl, refl); may = refl },
            tt,
            (
              record { fields = (refl, refl, refl, made (take 6 message) (node 3) (node 2) 1 refl (omega arith)); may = refl },
              tt,
              (
                record { fields = (refl, refl); may = refl },
                tt,
                (
                  record { fields = (refl, refl); may = refl },
                  tt,
                  (
                    record { fields = (refl, refl, refl, made (take 9 message) (node 2) (node 3) 1 refl (omega arith)); may = refl },
                    tt,
                    (
                      record { fields = (refl, refl); may = refl },
                      tt,
                      (
                        record { fields = (refl, omega arith); may = refl },
                        tt,
                        (
                          record { fields = (refl, refl); may = refl },
                          tt,
                          (
                            record { fields = (refl, refl, refl, made (take 13 message) (node 3) (node 2) 2 refl (omega arith)); may = refl },
                            tt,
                            (
                              record { fields = (refl, refl); may = refl },
                              tt,
                              (
                                record { fields = (refl, refl, refl, made (take 15 message) (node 2) (node 1) 2 refl (omega arith)); may = refl },
                                tt,
                                tt,
                              ),
                            ),
                          ),
                        ),
                      ),
                    ),
                  ),
                ),
              ),
            ),
          ),
        ),
      ),
    ),
  ),
)

pub stories_are_played : StoriesArePlayed
unfolding ids read_body_in body_at_in number_at of_fields field_at
stories_are_played = record {
  is_run = plays_are_clean (line []) (begins (line [])) message refl Starts refl in_range refl;
  all_of_it = refl;
  replies_are = refl;
  is_delivered = refl;
  is_acknowledged = refl;
  is_forged = refl;
  ends_before = refl;
  is_not = refl;
  comes = refl;
}
