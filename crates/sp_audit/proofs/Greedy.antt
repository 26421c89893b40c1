-- Rounds are counted exactly where each is ended as early as can be.
use Rattle.std.proofs.Common.{◌≡◌, ◌≤◌, ℕ, zero, suc, ◌+◌, List, [], ◌∷◌, ◌++◌, length, take, drop, sym, ap, subst, ◌∙◌, inl, inr, arith, append_assoc}
use Rattle.std.proofs.Common.{append-nil, length-append, take-add, drop-drop}
use Rattle.sp_base.specs.declared.id.NodeId.{NodeId}
use Rattle.sp_rules.specs.declared.kflow.FlowKind.TheVariants.{Plain}
use Rattle.sp_runs.specs.Rounds.{CompleteRounds, IsCompleteRound, IsHopServed, None_left, Round}
use Rattle.sp_schedule_events.specs.declared.event.Event.{Event}
use Rattle.sp_runs.specs.Runs.{is_poll}
use Rattle.std.proofs.lemmas.List.Sums.{count_by-le-length}
use Rattle.sp_audit.specs.Ends.{IsFirstEnd}
use Rattle.sp_audit.proofs.Hops.{beginning, cases_below, cut, hop_wider}
use Rattle.sp_audit.proofs.Walks.{take_drop}

-- an interval round a complete round is one
pub round_wider : (least : ℕ) (s d : NodeId) (path : List NodeId) (before gap during more : List Event)
    → IsCompleteRound Plain least s d path (before ++ gap) during
    → IsCompleteRound Plain least s d path before (gap ++ (during ++ more))
round_wider least s d path before gap during more round = λ i hop within. hop_wider least s d _ _ before gap during more (round i hop within)

-- rounds that follow from a place follow from any earlier one
pub rounds_earlier : (least : ℕ) (s d : NodeId) (path : List NodeId) (n : ℕ) (before more rest : List Event)
    → CompleteRounds Plain least s d path n (before ++ more) rest → CompleteRounds Plain least s d path n before (more ++ rest)
rounds_earlier least s d path zero before more rest rounds = None_left
rounds_earlier least s d path (suc n) before more all (Round gap during {after = after} round others) =
    subst (CompleteRounds Plain least s d path (suc n) before) (append_assoc more gap (during ++ after))
    (Round (more ++ gap) during (subst (λ (xs : List Event). IsCompleteRound Plain least s d path xs during) (append_assoc before more gap) round)
    (subst (λ (xs : List Event). CompleteRounds Plain least s d path n xs after)
    (append_assoc before more (gap ++ during) ∙ ap (λ (xs : List Event). before ++ xs) (sym (append_assoc more gap during))) others))

-- so the first round may be ended as early as can be
pub after_first : (least : ℕ) (s d : NodeId) (path : List NodeId) (n : ℕ) (before all : List Event) (end : ℕ)
    → IsFirstEnd (IsCompleteRound Plain least s d path before) all end
    → CompleteRounds Plain least s d path (suc n) before all
    → (end ≤ length all) × CompleteRounds Plain least s d path n (before ++ take end all) (drop end all)
after_first least s d path n before all end first (Round gap during {after = after} round others) =
    let whole : gap ++ (during ++ after) ≡ (gap ++ during) ++ after = sym (append_assoc gap during after) in
    let long = ap length whole in
    let sum = length-append (gap ++ during) after in
    let early = no_later in
    (omega (arith, long, sum, early), continue early)
  where
    no_later : end ≤ length (gap ++ during)
    no_later = elim (cases_below end (length (gap ++ during))) [
      | inl most ↦ most
      | inr more ↦ absurd (first.none (length (gap ++ during)) more
          (subst (IsCompleteRound Plain least s d path before)
          (ap (λ (xs : List Event). gap ++ xs) (append-nil during) ∙ sym (beginning (gap ++ during) after)
          ∙ ap (take (length (gap ++ during))) (append_assoc gap during after))
          (round_wider least s d path before gap during [] round)))
    ]

    continue : end ≤ length (gap ++ during)
        → CompleteRounds Plain least s d path n (before ++ take end (gap ++ (during ++ after))) (drop end (gap ++ (during ++ after)))
    continue early =
        let parts = cut end (gap ++ during) after early in
        let back : (gap ++ during) ++ after ≡ gap ++ (during ++ after) = append_assoc gap during after in
        subst (λ (xs : List Event). CompleteRounds Plain least s d path n (before ++ take end xs) (drop end xs)) back
        (subst (CompleteRounds Plain least s d path n (before ++ take end ((gap ++ during) ++ after))) (sym parts.1)
        (rounds_earlier least s d path n (before ++ take end ((gap ++ during) ++ after)) (drop end (gap ++ during)) after
        (subst (λ (xs : List Event). CompleteRounds Plain least s d path n xs after)
        (ap (λ (xs : List Event). before ++ xs) parts.0 ∙ sym (append_assoc before (take end ((gap ++ during) ++ after)) (drop end (gap ++ during))))
        others)))

pub with_first : (least : ℕ) (s d : NodeId) (path : List NodeId) (n : ℕ) (before all : List Event) (end : ℕ)
    → IsFirstEnd (IsCompleteRound Plain least s d path before) all end → end ≤ length all
    → CompleteRounds Plain least s d path n (before ++ take end all) (drop end all) → CompleteRounds Plain least s d path (suc n) before all
with_first least s d path n before all end first within others =
    subst (CompleteRounds Plain least s d path (suc n) before) (sym (take_drop all end))
    (Round [] (take end all) (subst (λ (xs : List Event). IsCompleteRound Plain least s d path xs (take end all)) (sym (append-nil before)) (first.has within))
    others)

-- a round has an event
pub not_empty : (least : ℕ) (s d : NodeId) (path : List NodeId) (before all : List Event) (end : ℕ) → 1 ≤ least → 2 ≤ length path
    → IsFirstEnd (IsCompleteRound Plain least s d path before) all end → 1 ≤ end
not_empty least s d [] before all end some hops first = absurd (omega (arith, hops))
not_empty least s d (x ∷ []) before all end some hops first = absurd (omega (arith, hops))
not_empty least s d (x ∷ (y ∷ path)) before all zero some hops first = absurd (never (first.has (omega arith) 0 (x, y) (omega arith)))
  where
    never : IsHopServed Plain least s d x y before [] → ⊥
    never h =
        let long = ap length h.parts in
        let a = length-append h.early (h.back ++ (h.between ++ (h.forth ++ h.late))) in
        let b = length-append h.back (h.between ++ (h.forth ++ h.late)) in
        let few = count_by-le-length (is_poll y x) h.back in
        absurd (omega (arith, long, a, b, few, h.is_back.enough, some))
not_empty least s d (x ∷ (y ∷ path)) before all (suc end) some hops first = omega arith

pub round_on : (least : ℕ) (s d : NodeId) (path : List NodeId) (es : List Event) (at end n : ℕ)
    → IsFirstEnd (IsCompleteRound Plain least s d path (take at es)) (drop at es) end → end ≤ length (drop at es)
    → CompleteRounds Plain least s d path n (take (at + end) es) (drop (at + end) es) → CompleteRounds Plain least s d path (suc n) (take at es) (drop at es)
round_on least s d path es at end n first within others =
    with_first least s d path n (take at es) (drop at es) end first within
    (subst (λ (xs : List Event). CompleteRounds Plain least s d path n xs (drop end (drop at es))) (take-add at end es)
    (subst (CompleteRounds Plain least s d path n (take (at + end) es)) (sym (drop-drop end at es)) others))

pub round_back : (least : ℕ) (s d : NodeId) (path : List NodeId) (es : List Event) (at end n : ℕ)
    → IsFirstEnd (IsCompleteRound Plain least s d path (take at es)) (drop at es) end
    → CompleteRounds Plain least s d path (suc n) (take at es) (drop at es)
    → (end ≤ length (drop at es)) × CompleteRounds Plain least s d path n (take (at + end) es) (drop (at + end) es)
round_back least s d path es at end n first rounds =
    let rest = after_first least s d path n (take at es) (drop at es) end first rounds in (
      rest.0,
      subst (CompleteRounds Plain least s d path n (take (at + end) es)) (drop-drop end at es)
          (subst (λ (xs : List Event). CompleteRounds Plain least s d path n xs (drop end (drop at es))) (sym (take-add at end es)) rest.1),
    )
