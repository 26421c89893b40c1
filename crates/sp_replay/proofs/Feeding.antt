-- A replay over the pieces of its source: what has come of each, and how the reading of the source ends.
use Rattle.std.proofs.Common.{◌≡◌, ◌<◌, ◌≤◌, ◌+◌, ◌-◌, min, ℕ, Bool, true, false, List, [], ◌++◌, length, take, drop, nat_lt, Option, Some, None, Result, Ok}
use Rattle.std.proofs.Common.{Err, refl, sym, ap, ◌∙◌, subst, arith, append_assoc, append-nil, length-append, length-drop, length-take, IfSome}
use Rattle.std.specs.Io.KnownBytes.{Appends, Consumes, IsAtEnd}
use Rattle.std.proofs.KnownBytes.{Consumes-kept, Consumes-nil, Consumes-trans}
use Rattle.std.specs.Io.KnownBytes.{Keeps}
use Rattle.std.specs.Prelude.{IsErrAnd}
use Rattle.std.proofs.lemmas.Bool.Decides.{nat_tests}
use Rattle.std.proofs.Math.Seq.{take-add, take-append_seam}
use Rattle.std.proofs.lemmas.List.{take-append-drop, take-take, take_all}
use Rattle.sp_base.specs.declared.limits.TheConstants.{MAX_INPUT_BYTES}
use Rattle.sp_lines.specs.Texts.{At_end, Leads, Nothing_left}
use Rattle.sp_outside.specs.Streams.{IsInput}
use Rattle.sp_schedule.specs.Feeds.{Fed, IsReadAs, ReadsOn, TakesPiece, is_ready, text_of, text_to, unfed}
use Rattle.sp_schedule.specs.Lines.{says}
use Rattle.sp_schedule.specs.Readings.{IsGoodStage}
use Rattle.sp_schedule.specs.declared.stage.Ending.{Ending}
use Rattle.sp_schedule.specs.declared.stage.Ending.TheVariants as endings
use Rattle.sp_schedule.specs.declared.stage.Stage.{Stage}
use Rattle.sp_schedule.specs.declared.stage.Stage.TheVariants as stages
use Rattle.sp_world.specs.Past.{IsPast, Past}
use Rattle.sp_replay.specs.declared.halt.Halt.{Halt}
use Rattle.sp_replay.specs.declared.halt.Halt.TheVariants as halts
use Rattle.sp_replay.specs.Fronts.{IsBrokenOff}
use Rattle.sp_replay.specs.Outputs.{AreDone, lines_before}
use Rattle.sp_replay.specs.Playing.{HaltsThere, IsBegunTo, IsReadThere, IsReadTo, Plays, SoFar}
use Rattle.sp_replay.proofs.Begun.{HasInput, begun_to, halts_on, has_input, whole_begins}
use Rattle.sp_replay.proofs.Lines.{begun_there}
use Rattle.sp_replay.proofs.Outputs.{ended_well}

-- ---- a piece comes

pub so_far_push : (old new : Fed) (world : Option Past) (piece : List ℕ) (count : ℕ) → SoFar old world → TakesPiece old piece count new → SoFar new world
so_far_push old new world piece count so_far takes = record {
  good = subst IsGoodStage (sym takes.stage) so_far.good;
  done = subst (λ (z : Stage). AreDone z world) (sym takes.stage) so_far.done;
  leads = λ rest last end stop more.
      subst (λ (z : Stage). Leads says stages.Start 1 (text_to z ++ rest) last end stop) (sym takes.stage)
      (so_far.leads rest last end stop
      (subst (λ (z : Stage). Leads says z (old.count + 1) rest last end stop) takes.stage
      (subst (λ (n : ℕ). Leads says new.stage (n + 1) rest last end stop) takes.lines more)));
}

-- the text of a feed after so much of a piece more
pub text_on : (start middle text piece : List ℕ) (done count : ℕ) → middle ≡ start ++ take done piece → text ≡ middle ++ take count (drop done piece)
    → text ≡ start ++ take (done + count) piece
text_on start middle text piece done count before after =
    after ∙ ap (λ (xs : List ℕ). xs ++ take count (drop done piece)) before ∙ append_assoc start (take done piece) (take count (drop done piece))
    ∙ ap (λ (xs : List ℕ). start ++ xs) (sym (take-add done count piece))

-- what stopped there stops the whole piece
pub halts_in : (start text piece : List ℕ) (count : ℕ) (world : Option Past) (from after : Option (List ℕ)) (halt : Halt) → text ≡ start ++ take count piece
    → HaltsThere text world from after halt → HaltsThere (start ++ piece) world from after halt
halts_in start text piece count world from after halt is there =
    let more = halts_on text (drop count piece) world from after halt there in
    let whole : text ++ drop count piece ≡ start ++ piece =
    ap (λ (xs : List ℕ). xs ++ drop count piece) is ∙ append_assoc start (take count piece) (drop count piece)
    ∙ ap (λ (xs : List ℕ). start ++ xs) (take-append-drop count piece) in
    subst (λ (xs : List ℕ). HaltsThere xs world from after halt) whole more

pub plays_err : {T : Type 0} (text : List ℕ) (old new : Option Past) (before after : Option (List ℕ)) (result : Result T Halt) (halt : Halt)
    → IsErrAnd result (λ e. e ≡ halt)
    → ((start : Option (List ℕ)) → Appends start before (lines_before old) → HaltsThere text new start after halt) → Plays text old new before after result
plays_err text old new before after (Ok done) halt is there = absurd is
plays_err text old new before after (Err e) halt is there = λ start written. subst (HaltsThere text new start after) (sym is) (there start written)

-- ---- the source

-- before the first piece
pub record IsFresh (f : Fed) (left : Option (List ℕ)) : Type 0 where
  pub total : length (text_of f) ≡ 0
  pub next : is_ready f.waiting ≡ false
  pub so_far : SoFar f None
  pub taken : Consumes left left (text_of f)

pub fresh : (f : Fed) (left : Option (List ℕ)) → f ≡ unfed → IsFresh f left
unfolding text_to
fresh f left is = subst (λ (z : Fed). IsFresh z left) (sym is) (record {
  total = refl;
  next = refl;
  so_far = record { good = tt; done = tt; leads = λ rest last end stop more. more };
  taken = Consumes-nil left;
})

-- the source failed
pub broken_off : (left middle rest : Option (List ℕ)) (f : Fed) (world : Option Past) (before after : Option (List ℕ)) → Consumes left middle (text_of f)
    → Keeps middle rest
    → length (text_of f) ≤ MAX_INPUT_BYTES → SoFar f world → is_ready f.waiting ≡ false → Appends before after (lines_before world)
    → ((more : List ℕ) (is_cut : Bool) → ReadsOn f more is_cut) → IfSome world IsPast
    → IsBegunTo left world before after × IsBrokenOff left rest world before after
broken_off left middle rest f world before after taken kept short so_far next written reads runs = (
  begun_to left (text_of f) world before after (has_input left middle (text_of f) taken short)
      (begun_there f world before after reads so_far.good so_far.done runs (whole_begins before after (lines_before world) written)),
  record {
    front = text_of f;
    taken = Consumes-kept left middle rest (text_of f) taken kept;
    stage = f.stage;
    come = record {
      lines = text_to f.stage;
      waiting = f.waiting;
      joined = refl;
      next = f.count + 1;
      good = subst (λ (xs : List ℕ). Leads says stages.Start 1 xs f.stage (f.count + 1) Nothing_left) (append-nil (text_to f.stage))
          (so_far.leads [] f.stage (f.count + 1) Nothing_left At_end);
      waits = next;
    };
    done = so_far.done;
    written = written;
  },
)

-- ---- the end of what is read

-- a text that goes on wasn't read whole
pub not_whole : (front : List ℕ) (world : Option Past) (start after : Option (List ℕ)) (halt : Halt) → HaltsThere front world start after halt
    → halt ≡ halts.Read endings.Whole → ⊥
not_whole front world start after halt there is = never (subst (HaltsThere front world start after) is there)
  where
    never : IsReadThere front world start after endings.Whole → ⊥
    never read =
        let reading = read.reading [] true in
        let well = ended_well true read.stage reading.line reading.stop reading.ends in
        let whole : true ≡ false = well.whole in cc

pub read_to : (left : Option (List ℕ)) (f : Fed) (is_cut : Bool) (world : Option Past) (before after : Option (List ℕ)) (ending : Ending)
    → IsInput left MAX_INPUT_BYTES (text_of f) is_cut
    → SoFar f world → IsReadAs f is_cut ending → Appends before after (lines_before world) → IsReadTo left world before after ending
read_to left f is_cut world before after ending input so_far reading written = record {
  text = text_of f;
  is_cut = is_cut;
  input = input;
  stage = f.stage;
  reading = reading;
  good = so_far.good;
  done = so_far.done;
  written = written;
}

-- a read that gave nothing takes nothing
pub consumes_none : (left middle rest : Option (List ℕ)) (text none : List ℕ) → Consumes left middle text → Consumes middle rest none → none ≡ []
    → Consumes left rest text
consumes_none left middle rest text none before came is =
    subst (Consumes left rest) (ap (λ (xs : List ℕ). text ++ xs) is ∙ append-nil text) (Consumes-trans left middle rest text none before came)

-- nothing is left
pub input_ended : (left rest : Option (List ℕ)) (text : List ℕ) → Consumes left rest text → IsAtEnd rest → length text ≤ MAX_INPUT_BYTES
    → IsInput left MAX_INPUT_BYTES text false
input_ended None rest text taken end short = tt
input_ended (Some all) None text taken end short = absurd taken
input_ended (Some all) (Some rest) text taken end short =
    let same : all ≡ text = taken ∙ ap (λ (xs : List ℕ). text ++ xs) end ∙ append-nil text in
    let within : length all ≤ MAX_INPUT_BYTES = omega (arith, short, ap (λ (xs : List ℕ). length xs) same) in
    let uncut : nat_lt MAX_INPUT_BYTES (length all) ≡ false = grind (arith, nat_tests, within) in
    (sym same ∙ sym (take_all MAX_INPUT_BYTES all within), sym uncut)

-- more is left than is read
pub input_cut : (left rest : Option (List ℕ)) (text more : List ℕ) → Consumes left rest (text ++ more) → length text ≡ MAX_INPUT_BYTES → 0 < length more
    → IsInput left MAX_INPUT_BYTES text true
input_cut None rest text more taken whole some = tt
input_cut (Some all) None text more taken whole some = absurd taken
input_cut (Some all) (Some rest) text more taken whole some =
    let same : all ≡ text ++ (more ++ rest) = taken ∙ append_assoc text more rest in
    let front : take MAX_INPUT_BYTES all ≡ text =
    ap (take MAX_INPUT_BYTES) same ∙ ap (λ (n : ℕ). take n (text ++ (more ++ rest))) (sym whole) ∙ take-append_seam text (more ++ rest) in
    let long : MAX_INPUT_BYTES < length all =
    omega (arith, ap (λ (xs : List ℕ). length xs) same, length-append text (more ++ rest), length-append more rest, whole, some) in
    let cut : nat_lt MAX_INPUT_BYTES (length all) ≡ true = grind (arith, nat_tests, long) in
    (sym front, sym cut)

-- ---- a piece that was read

front_input : (left rest : Option (List ℕ)) (front more : List ℕ) → Consumes left rest (front ++ more) → length front ≤ MAX_INPUT_BYTES → HasInput left front
front_input None rest front more taken short = has_input None None front tt short
front_input (Some all) None front more taken short = absurd taken
front_input (Some all) (Some rest) front more taken short = has_input (Some all) (Some (more ++ rest)) front (taken ∙ append_assoc front more rest) short

-- so many bytes of the buffer came, of which so many may be read
module _ (left middle rest : Option (List ℕ)) (text buffer : List ℕ) (count most total : ℕ) (before : Consumes left middle text)
    (came : Consumes middle rest (take count buffer))
    (total_is : length text ≡ total) (within : total ≤ MAX_INPUT_BYTES) (short : count ≤ length buffer) (most_is : most ≡ min count (MAX_INPUT_BYTES - total))
  where
    few : most ≤ count
    few = omega (arith, most_is)

    length_is : length (text ++ take most buffer) ≡ total + most
    length_is = omega (arith, length-append text (take most buffer), length-take most buffer, total_is, few, short)

    all_taken : Consumes left rest ((text ++ take most buffer) ++ drop most (take count buffer))
    all_taken =
        let halves : take count buffer ≡ take most buffer ++ drop most (take count buffer) =
        sym (take-append-drop most (take count buffer)) ∙ ap (λ (xs : List ℕ). xs ++ drop most (take count buffer)) (take-take most count buffer few) in
        let split : text ++ take count buffer ≡ (text ++ take most buffer) ++ drop most (take count buffer) =
        ap (λ (xs : List ℕ). text ++ xs) halves ∙ sym (append_assoc text (take most buffer) (drop most (take count buffer))) in
        subst (Consumes left rest) split (Consumes-trans left middle rest text (take count buffer) before came)

    pub piece_input : HasInput left (text ++ take most buffer)
    piece_input = front_input left rest (text ++ take most buffer) (drop most (take count buffer)) all_taken (omega (arith, length_is, most_is, within))

    pub piece_all : count ≤ most → Consumes left rest (text ++ take most buffer)
    piece_all all =
        let same : count ≡ most = omega (arith, all, few) in
        subst (λ (n : ℕ). Consumes left rest (text ++ take n buffer)) same (Consumes-trans left middle rest text (take count buffer) before came)

    pub piece_length : length (text ++ take most buffer) ≡ total + most
    piece_length = length_is

    pub piece_cut : most < count → IsInput left MAX_INPUT_BYTES (text ++ take most buffer) true
    piece_cut less =
        input_cut left rest (text ++ take most buffer) (drop most (take count buffer)) all_taken (omega (arith, length_is, most_is, less, within))
        (omega (arith, length-drop most (take count buffer), length-take count buffer, less, short))
