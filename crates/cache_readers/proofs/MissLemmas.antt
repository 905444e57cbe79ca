-- What a reader knows of the lanes of the index when its search finds nothing.
use Rattle.std.proofs.Common.{◌≡◌, ◌⊎◌, ℕ, Bool, true, false, nat_lt, List, [], ◌∷◌, ◌++◌, Result, Ok, Err, Option, Some, None, refl, sym, ap, ap₂, ◌∙◌, subst, inl, inr, arith, ⊎_elim}
use Rattle.std.specs.Result.{IfErr}
use Rattle.std.proofs.lemmas.Bool.{ltb-true, ltb-false}
use Rattle.std.proofs.lemmas.List.{append-nil, append_assoc}
use Rattle.seen_words.specs.Past.{EyeView, Extends}
use Rattle.seen_words.specs.Windows.{AtOneWithin}
use Rattle.seen_words.proofs.Windows.{not_longer, not_earlier, one_earlier, one_within_longer}
use Rattle.bump_rules.specs.declared.configs.Config.{Config}
use Rattle.bump_rules.specs.declared.items.Head.{Head}
use Rattle.bump_rules.specs.declared.items.ItemId.{ItemId}
use Rattle.bump_steps.specs.declared.refusals.TakeRefusal.{TakeRefusal}
use Rattle.bump_steps.specs.declared.views.HoldSheet.{HoldSheet}
use Rattle.bump_steps.specs.declared.views.OwnStep.{OwnStep}
use Rattle.bump_steps.specs.References.{new_hold}
use Rattle.bump_steps.specs.Rule.{chunks as all_chunks}
use Rattle.bump_steps.specs.Tries.{of_any, last_found, asked_life, asked_refusal}
use Rattle.bump_unlocked.specs.Gets.{GotAny, get_any_answer}
use Rattle.bump_unlocked.specs.Workers.{WorkerState}
use Rattle.cache_index.specs.History.{AnswersPast, BeginsPast, EndsPast, HasLife, LeadsBy, Looks, SeesMoment, SeesIndex}
use Rattle.cache_index.specs.Places.{IsPlace}
use Rattle.cache_index.specs.Views.{IndexReaderView, ReaderSearchView}
use Rattle.cache_index.specs.Walks.{IsAhead}
use Rattle.cache_index.proofs.ReaderLemmas.{index_seen, looks_none, sees_looks}
use Rattle.cache_readers.specs.declared.misses.Miss.{Miss}
use Rattle.cache_readers.specs.declared.misses.Miss.TheVariants as miss
use Rattle.cache_readers.specs.declared.vain.Vain.{Vain}
use Rattle.cache_readers.specs.declared.vain.Vain.TheVariants as vain
use Rattle.cache_readers.specs.Glances.{BehindGlance, GlancesInVain}
use Rattle.cache_readers.specs.Looks.{HasOtherKey, SearchEnds, SearchesAnew, WorkerGetsAny, many_more, most_searches}
use Rattle.cache_readers.specs.Misses.{GivesUp, HeldAnother, HeldOver, IsAbsent, IsMissed, IsRuledOut}
use Rattle.cache_readers.proofs.GrownLemmas.{HasBehind, TookMore, anew_more, others_more}
use Rattle.cache_readers.proofs.TakenLemmas.{gets_first}

-- the worker's holds are those that it had, and more
abbrev pub HoldsMore : WorkerState → WorkerState → Type 0
HoldsMore before after = HasBehind before.sheet.taken after.sheet.taken

pub holds_then : (before between after : WorkerState) → HoldsMore before between → HoldsMore between after
    → HoldsMore before after
holds_then before between after one other = (
  other.0 ++ one.0,
  other.1 ∙ ap (λ t. other.0 ++ t) one.1 ∙ sym (append_assoc other.0 one.0 before.sheet.taken),
)

pub holds_same : (before after : WorkerState) → after ≡ before → HoldsMore before after
holds_same before after same = ([], ap (λ (w : WorkerState). w.sheet.taken) same)

-- a hold that was taken in between is one more
pub another_holds : (key : List ℕ) (life : ItemId) (before after : WorkerState) → HeldAnother key life before after
    → HoldsMore before after
another_holds key life before after another =
    let held = another.held in (
      held.newer ++ another.hold ∷ held.older,
      held.is ∙ sym (append_assoc held.newer (another.hold ∷ held.older) before.sheet.taken),
    )

-- It was taken in between also where more holds came behind,
another_longer : (key : List ℕ) (life : ItemId) (before between after : WorkerState)
    → HeldAnother key life before between → HoldsMore between after → HeldAnother key life before after
another_longer key life before between after another more =
    let held = another.held in
    record {
      hold = another.hold;
      held = record {
        newer = more.0 ++ held.newer;
        older = held.older;
        is = more.1 ∙ ap (λ t. more.0 ++ t) held.is
            ∙ sym (append_assoc more.0 held.newer (another.hold ∷ (held.older ++ before.sheet.taken)));
      };
      is = another.is;
      other = another.other;
    }

-- and where some came before
another_earlier : (key : List ℕ) (life : ItemId) (before between after : WorkerState) → HoldsMore before between
    → HeldAnother key life between after → HeldAnother key life before after
another_earlier key life before between after more another =
    let held = another.held in
    record {
      hold = another.hold;
      held = record {
        newer = held.newer;
        older = held.older ++ more.0;
        is = held.is ∙ ap (λ t. held.newer ++ (another.hold ∷ t))
            (ap (λ t. held.older ++ t) more.1 ∙ sym (append_assoc held.older more.0 before.sheet.taken));
      };
      is = another.is;
      other = another.other;
    }

-- a lane that is ruled out is so later, too
ruled_longer : (hash : ℕ) (key : List ℕ) (first place : ℕ) (before : WorkerState) (seen : EyeView) (between : WorkerState)
    (sees : EyeView) (after : WorkerState) (watched : EyeView)
    → IsRuledOut hash key first place before seen between sees → HoldsMore between after → Extends sees.seen watched.seen
    → IsRuledOut hash key first place before seen after watched
ruled_longer hash key first place before seen between sees after watched (inl none) more on =
    inl (not_longer (LeadsBy hash place) seen.seen sees.seen watched.seen none on)
ruled_longer hash key first place before seen between sees after watched (inr (life, one, another)) more on = inr (
  life,
  one_within_longer (HasLife first place life) seen.seen sees.seen watched.seen one on,
  another_longer key life before between after another more,
)

-- and from earlier on
ruled_earlier : (hash : ℕ) (key : List ℕ) (first place : ℕ) (before : WorkerState) (seen : EyeView)
    (between : WorkerState) (sees : EyeView) (after : WorkerState) (watched : EyeView) → HoldsMore before between
    → Extends seen.seen sees.seen → IsRuledOut hash key first place between sees after watched
    → IsRuledOut hash key first place before seen after watched
ruled_earlier hash key first place before seen between sees after watched more on (inl none) =
    inl (not_earlier (LeadsBy hash place) seen.seen sees.seen watched.seen on none)
ruled_earlier hash key first place before seen between sees after watched more on (inr (life, one, another)) = inr (
  life,
  one_earlier (HasLife first place life) seen.seen sees.seen watched.seen on one,
  another_earlier key life before between after more another,
)

-- each lane is yet to come, or is ruled out
abbrev pub IsSoFar : ℕ → List ℕ → IndexReaderView → ReaderSearchView → WorkerState → EyeView → WorkerState → EyeView
    → Type 0
IsSoFar hash key index search before seen after sees = (place : ℕ) → IsPlace index.nests place
    → IsAhead search place ⊎ IsRuledOut hash key index.first place before seen after sees

-- where a search begins
pub so_far_first : (hash : ℕ) (key : List ℕ) (index : IndexReaderView) (search : ReaderSearchView) (worker : WorkerState)
    (seen sees : EyeView) → SeesIndex index seen → BeginsPast index.nests hash search seen sees
    → IsSoFar hash key index search worker seen worker sees
so_far_first hash key index search worker seen sees eye begins place is =
    ⊎_elim (λ ahead. inl ahead) (λ none. inr (inl none)) (begins eye.size place is)

-- where it answered a life that was held then, and had another key
pub so_far_more : (hash : ℕ) (key : List ℕ) (index : IndexReaderView) (life : ItemId) (from to : ReaderSearchView)
    (before middle after : WorkerState) (seen sees watched : EyeView) → SeesIndex index seen → Looks seen sees
    → Looks sees watched → from.first ≡ index.first → from.nests ≡ index.nests → from.hash ≡ hash
    → IsSoFar hash key index from before seen middle sees
    → AnswersPast from.nests from.hash life from to sees watched → HoldsMore before middle
    → HeldAnother key life middle after → IsSoFar hash key index to before seen after watched
so_far_more hash key index life from to before middle after seen sees watched eye looked looks first_is nests_is hash_is
    so_far answers more another place is =
    let answers_here : AnswersPast index.nests hash life from to sees watched =
    subst (λ (n : ℕ). AnswersPast n hash life from to sees watched) nests_is
    (subst (λ (h : ℕ). AnswersPast from.nests h life from to sees watched) hash_is answers) in
    ⊎_elim
    (λ ahead. ⊎_elim (λ still. inl still)
    (λ done. inr (⊎_elim
    (λ none. inl (not_earlier (LeadsBy hash place) seen.seen sees.seen watched.seen looked.seen none))
    (λ one. inr (
      life,
      subst (λ (f : ℕ). AtOneWithin (HasLife f place life) seen.seen watched.seen) first_is
          (one_earlier (HasLife from.first place life) seen.seen sees.seen watched.seen looked.seen one),
      another_earlier key life before middle after more another,
    )) done))
    (answers_here (index_seen index seen sees eye looked).size place is ahead))
    (λ ruled. inr (ruled_longer hash key index.first place before seen middle sees after watched ruled
    (another_holds key life middle after another) looks.seen))
    (so_far place is)

-- and where it ended
pub so_far_end : (hash : ℕ) (key : List ℕ) (index : IndexReaderView) (search : ReaderSearchView)
    (before after : WorkerState) (seen sees watched : EyeView) → SeesIndex index seen → Looks seen sees
    → Looks sees watched → search.nests ≡ index.nests → search.hash ≡ hash
    → IsSoFar hash key index search before seen after sees → EndsPast search.nests search.hash search sees watched
    → IsAbsent hash key index before seen after watched
so_far_end hash key index search before after seen sees watched eye looked looks nests_is hash_is so_far ends place is =
    let ends_here : EndsPast index.nests hash search sees watched =
    subst (λ (n : ℕ). EndsPast n hash search sees watched) nests_is
    (subst (λ (h : ℕ). EndsPast search.nests h search sees watched) hash_is ends) in
    ⊎_elim
    (λ ahead. inl (not_earlier (LeadsBy hash place) seen.seen sees.seen watched.seen looked.seen
    (ends_here (index_seen index seen sees eye looked).size place is ahead)))
    (λ ruled. ruled_longer hash key index.first place before seen after sees after watched ruled ([], refl) looks.seen)
    (so_far place is)

-- what is absent from some moment on is absent from earlier on
pub absent_earlier : (hash : ℕ) (key : List ℕ) (index : IndexReaderView) (before : WorkerState) (seen : EyeView)
    (between : WorkerState) (sees : EyeView) (after : WorkerState) (watched : EyeView) → HoldsMore before between
    → Looks seen sees → IsAbsent hash key index between sees after watched
    → IsAbsent hash key index before seen after watched
absent_earlier hash key index before seen between sees after watched more looks absent place is =
    ruled_earlier hash key index.first place before seen between sees after watched more looks.seen (absent place is)

-- so is what had expired
pub over_earlier : (config : Config) (key : List ℕ) (now : ℕ) (before between after : WorkerState) → HoldsMore before between
    → HeldOver config key now between after → HeldOver config key now before after
over_earlier config key now before between after more over = record {
  between = over.between;
  older = over.older ++ more.0;
  since = over.since ∙ ap (λ t. over.older ++ t) more.1 ∙ sym (append_assoc over.older more.0 before.sheet.taken);
  looks = over.looks;
}

-- and a miss
pub missed_earlier : (why : Miss) (hash : ℕ) (key : List ℕ) (now : ℕ) (config : Config) (index : IndexReaderView)
    (from to : ℕ) (before : WorkerState) (seen : EyeView) (between : WorkerState) (sees : EyeView) (after : WorkerState)
    (watched : EyeView) → HoldsMore before between → Looks seen sees
    → IsMissed why hash key now config index from to between sees after watched
    → IsMissed why hash key now config index from to before seen after watched
missed_earlier miss.Absent hash key now config index from to before seen between sees after watched more looks absent =
    absent_earlier hash key index before seen between sees after watched more looks absent
missed_earlier miss.Expired hash key now config index from to before seen between sees after watched more looks over =
    over_earlier config key now before between after more over
missed_earlier miss.Unknown hash key now config index from to before seen between sees after watched more looks all = all

-- a search that ended at an item that has expired held it
pub over_of_ends : (config : Config) (key : List ℕ) (now : ℕ) (before after : WorkerState)
    → SearchEnds vain.Over config key now before after → HeldOver config key now before after
over_of_ends config key now before after ends =
    let more : TookMore before ends.between =
    others_more config key now ends.others.looks before ends.between ends.others.others in
    record { between = ends.between; older = more.taken.0; since = more.taken.1; looks = ends.last }

-- there was no glance
pub no_glance : (chunk : ℕ) (worker : WorkerState) → GlancesInVain chunk worker worker
no_glance chunk worker = record {
  heads = [];
  glances = [];
  few = omega arith;
  one = omega arith;
  is = ap (λ (ss : List OwnStep). record worker { sheet = record worker.sheet { steps = ss } })
      (sym (append-nil worker.sheet.steps));
}

-- searches that began anew took holds
pub holds_anew : (config : Config) (key : List ℕ) (now turns chunk : ℕ) (before after : WorkerState)
    → BehindGlance chunk (λ (w : WorkerState). SearchesAnew config key now turns w after) before → HoldsMore before after
holds_anew config key now turns chunk before after behind =
    let more : TookMore before after =
    anew_more config key now turns before after (behind before (no_glance chunk before)) in
    more.taken

-- who began as many as there are at most gives up
pub gives_up : (turns from to : ℕ) → turns ≡ most_searches → to ≡ many_more turns from → GivesUp from to
gives_up turns from to all counted = record { counted = counted ∙ ap (λ (n : ℕ). many_more n from) all }

-- a get of whatever item is linked in a chunk answers a hold of a life of that chunk
gets_chunk : (config : Config) (chunk : ℕ) (before after : WorkerState) (hold : HoldSheet) (found : Head)
    → WorkerGetsAny config chunk before after (Ok (hold, found)) → hold.life.chunk ≡ chunk
gets_chunk config chunk before after hold found gets = by (nat_lt chunk (all_chunks config)) refl
  where
    answered : (item : ItemId) (row : List ℕ) (last : Head) (o : Option TakeRefusal)
        → Ok (hold, found) ≡ get_any_answer o item row last → hold.life ≡ item
    answered item row last None is =
        let same : (hold, found) ≡ (new_hold item row, last) = cc is in ap (λ (t : HoldSheet × Head). t.0.life) same
    answered item row last (Some why) is = absurd (cc is)

    of_got : (first : Head) (more : List Head)
        → GotAny config.refs_limit chunk before after (Ok (hold, found)) first more → hold.life.chunk ≡ chunk
    of_got first more got = ap (λ (item : ItemId). item.chunk)
        (answered (asked_life of_any chunk first more) got.row (last_found first more)
        (asked_refusal config.refs_limit of_any first more) got.answer)

    by : (near : Bool) → nat_lt chunk (all_chunks config) ≡ near → hold.life.chunk ≡ chunk
    by true is = let t = gets.got (ltb-true chunk (all_chunks config) is) in of_got t.0 t.1 t.2
    by false is = let far = ltb-false chunk (all_chunks config) is in
        absurd (cc (gets.missing (omega (arith, far))).0)

-- a get held a life whose key is another one
pub another_held : (config : Config) (key : List ℕ) (id : ItemId) (before after : WorkerState) (hold : HoldSheet)
    (found : Head) → WorkerGetsAny config id.chunk before after (Ok (hold, found))
    → hold.life.generation ≡ id.generation → HasOtherKey key hold.row → HeldAnother key id before after
another_held config key id before after hold found gets generation other = record {
  hold = hold;
  held = record { newer = []; older = []; is = gets_first config id.chunk before after hold found gets };
  is = ap₂ (λ (c g : ℕ). record { chunk = c; generation = g }) (gets_chunk config id.chunk before after hold found gets)
      generation;
  other = other;
}

-- a glance takes no hold
pub holds_glanced : (chunk : ℕ) (before after : WorkerState) → GlancesInVain chunk before after → HoldsMore before after
holds_glanced chunk before after glances = ([], ap (λ (w : WorkerState). w.sheet.taken) glances.is)

-- a miss behind a glance is one
pub missed_behind : {A : Type 0} (result : Result A Miss) (chunk hash : ℕ) (key : List ℕ) (now : ℕ) (config : Config)
    (index : IndexReaderView) (from to : ℕ) (before : WorkerState) (seen : EyeView) (between : WorkerState)
    (sees : EyeView) (after : WorkerState) (watched : EyeView) → GlancesInVain chunk before between → Looks seen sees
    → IfErr result (λ why. IsMissed why hash key now config index from to between sees after watched)
    → IfErr result (λ why. IsMissed why hash key now config index from to before seen after watched)
missed_behind (Ok it) chunk hash key now config index from to before seen between sees after watched glances looks missed =
    tt
missed_behind (Err why) chunk hash key now config index from to before seen between sees after watched glances looks missed =
    missed_earlier why hash key now config index from to before seen between sees after watched
    (holds_glanced chunk before between glances) looks missed

-- a search that the index led nowhere
pub nowhere_absent : (hash : ℕ) (key : List ℕ) (index : IndexReaderView) (search : ReaderSearchView) (worker : WorkerState)
    (seen sees watched : EyeView) → SeesIndex index seen → SeesMoment seen sees → Looks sees watched
    → search.nests ≡ index.nests → search.hash ≡ hash → BeginsPast index.nests hash search seen sees
    → EndsPast search.nests search.hash search sees watched → IsAbsent hash key index worker seen worker watched
nowhere_absent hash key index search worker seen sees watched eye sees_now looks nests_is hash_is begins ends =
    so_far_end hash key index search worker worker seen sees watched eye (sees_looks seen sees sees_now) looks nests_is
    hash_is (so_far_first hash key index search worker seen sees eye begins) ends

-- where nothing was found behind a look at another key, that is so from the look on
pub absent_behind : {A : Type 0} (result : Result A Vain) (hash : ℕ) (key : List ℕ) (index : IndexReaderView) (life : ItemId)
    (before between after : WorkerState) (seen sees : EyeView) → HeldAnother key life before between
    → IfErr result (λ why. why ≡ vain.Other → IsAbsent hash key index between seen after sees)
    → IfErr result (λ why. why ≡ vain.Other → IsAbsent hash key index before seen after sees)
absent_behind (Ok it) hash key index life before between after seen sees another absent = tt
absent_behind (Err why) hash key index life before between after seen sees another absent = λ other.
    absent_earlier hash key index before seen between seen after sees (another_holds key life before between another)
    (looks_none seen) (absent other)
