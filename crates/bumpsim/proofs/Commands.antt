-- The command is one whose faults and values are known, and which run its words mean.
use Rattle.std.proofs.Common.{◌≡◌, ℕ, refl, ap, ◌∙◌, Bool, true, false, List, [], ◌∷◌, Option, Some, None, Err, option_map, inl, inr, codes, if◌then◌else◌}
use Rattle.clap.specs.Words.{Text, is_simple_and_free, is_simple, fault_of, matches_of, rows_of, found_of, first_of}
use Rattle.clap.specs.Kinds.{HasKind, Kinds}
use Rattle.clap.specs.Values.{kind_of}
use Rattle.clap.specs.declared.Error.{Error}
use Rattle.clap.specs.declared.error.ErrorKind.TheVariants.{OutOfMemory}
use Rattle.clap.specs.Matches.{first_value}
use Rattle.clap.specs.declared.ArgMatches.{ArgMatches}
use Rattle.clap.proofs.OnLiterals.{clap_on_literals}
use Rattle.clap.proofs.WalkLemmas.{first_value-rows}
use Rattle.bumpsim.specs.Words.{app, value_in, mode_of, mode_in, drainers_in, asked, has_none, asked_run, refusal_of_error, TakesRun}
use Rattle.bumpsim.specs.declared.runs.Mode.{Mode}
use Rattle.bumpsim.specs.declared.command_line.Refusal.{Refusal}
use Rattle.bumpsim.specs.declared.command_line.Refusal.TheVariants as refusal

pub free : is_simple_and_free app ≡ true
unfolding clap_on_literals
free = refl

pub simple : is_simple app ≡ true
unfolding clap_on_literals
simple = refl

-- a value that was found is the one that is meant
pub value_found : (m : ArgMatches) (words : List Text) (id : Text) → rows_of (found_of m) ≡ matches_of app words → first_value (found_of m) id ≡ value_in words id
value_found m words id h = first_value-rows (found_of m) id ∙ ap (first_of id) h

-- the run, where the words have no fault
abbrev chosen : Bool → Option Mode → Option Text → Option Text → Option (Mode × Text × ℕ)
chosen whole way file drainers = if whole then asked way file drainers else None

no_mode_chosen : (whole : Bool) (file drainers : Option Text) → chosen whole None file drainers ≡ None
no_mode_chosen true file drainers = refl
no_mode_chosen false file drainers = refl

no_file_chosen : (whole : Bool) (way : Option Mode) (drainers : Option Text) → chosen whole way None drainers ≡ None
no_file_chosen true (Some way) drainers = refl
no_file_chosen true None drainers = refl
no_file_chosen false way drainers = refl

no_drainers_chosen : (whole : Bool) (way : Mode) (file drainers : Option Text) → drainers_in way drainers ≡ None → chosen whole (Some way) file drainers ≡ None
no_drainers_chosen true way (Some file) drainers none = ap (option_map (λ n. (way, file, n))) none
no_drainers_chosen true way None drainers none = refl
no_drainers_chosen false way file drainers none = refl

pub run_meant : (words : List Text) (word file : Text) (way : Mode) (drainers : ℕ) → fault_of app words ≡ [] → value_in words (codes "mode") ≡ Some word
    → mode_of word ≡ Some way → value_in words (codes "file") ≡ Some file → drainers_in way (value_in words (codes "drainers")) ≡ Some drainers
    → asked_run words ≡ Some (way, file, drainers)
run_meant words word file way drainers whole named known given counted =
    let more = value_in words (codes "drainers") in
    ap (λ b. chosen b (mode_in (value_in words (codes "mode"))) (value_in words (codes "file")) more) (ap has_none whole)
    ∙ ap (λ m. asked m (value_in words (codes "file")) more) (ap mode_in named ∙ known) ∙ ap (λ f. asked (Some way) f more) given
    ∙ ap (option_map (λ n. (way, file, n))) counted

-- words without a way of running mean no run
pub no_mode : (words : List Text) → mode_in (value_in words (codes "mode")) ≡ None → asked_run words ≡ None
no_mode words named =
    let file = value_in words (codes "file") in
    let more = value_in words (codes "drainers") in
    ap (λ m. chosen (has_none (fault_of app words)) m file more) named ∙ no_mode_chosen (has_none (fault_of app words)) file more

-- words without a file mean no run
pub no_file : (words : List Text) → value_in words (codes "file") ≡ None → asked_run words ≡ None
no_file words given =
    let way = mode_in (value_in words (codes "mode")) in
    let more = value_in words (codes "drainers") in
    ap (λ f. chosen (has_none (fault_of app words)) way f more) given ∙ no_file_chosen (has_none (fault_of app words)) way more

-- words with another number of drainers than there may be mean no run
pub no_drainers : (words : List Text) (word : Text) (way : Mode) → value_in words (codes "mode") ≡ Some word → mode_of word ≡ Some way
    → drainers_in way (value_in words (codes "drainers")) ≡ None → asked_run words ≡ None
no_drainers words word way named known none =
    let file = value_in words (codes "file") in
    let more = value_in words (codes "drainers") in
    ap (λ m. chosen (has_none (fault_of app words)) m file more) (ap mode_in named ∙ known)
    ∙ no_drainers_chosen (has_none (fault_of app words)) way file more none

not_free : (kinds : Kinds) (e : Error) → HasKind kinds e → (kind_of e ≡ OutOfMemory → ⊥) → has_none kinds ≡ false
not_free [] e (inl h) other = absurd (other h)
not_free [] e (inr h) other = absurd h
not_free (k ∷ ks) e h other = refl

none_meant : (words : List Text) (e : Error) → HasKind (fault_of app words) e → (kind_of e ≡ OutOfMemory → ⊥) → asked_run words ≡ None
none_meant words e h other = ap
    (λ b. chosen b (mode_in (value_in words (codes "mode"))) (value_in words (codes "file")) (value_in words (codes "drainers")))
    (not_free (fault_of app words) e h other)

-- words that the command doesn't take mean no run
pub refused : (words : List Text) (e : Error) (r : Refusal) → HasKind (fault_of app words) e → r ≡ refusal_of_error (kind_of e) → TakesRun (asked_run words) (Err r)
refused words e refusal.Memory h same = tt
refused words e refusal.Usage h same = none_meant words e h (λ memory. let bad : refusal.Usage ≡ refusal.Memory = same ∙ ap refusal_of_error memory in cc)
