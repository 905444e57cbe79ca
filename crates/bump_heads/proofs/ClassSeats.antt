-- A class's seat after a step on its sheet, and what it knows of the Head that it finds.
use Rattle.std.proofs.Common.{◌≡◌, ℕ, Bool, true, cond, List, Option, Some, None, refl, sym, ap, ◌∙◌, subst, arith}
use Rattle.atomic_table.specs.Seated.{TableId}
use Rattle.bump_steps.specs.Places.{rows}
use Rattle.bump_rules.specs.declared.items.Head.{Head}
use Rattle.bump_rules.specs.Lawful.{Shows}
use Rattle.bump_word.specs.Words.{Spells}
use Rattle.bump_word.proofs.Words.{one_head}
use Rattle.bump_steps.specs.declared.views.ClassSheet.{ClassSheet}
use Rattle.bump_heads.specs.declared.joined.Joined.{Joined}
use Rattle.bump_heads.specs.declared.views.ClassView.{ClassView}
use Rattle.bump_heads.specs.Applying.{IsJoined, KeepsJoined}
use Rattle.bump_steps.specs.declared.views.LaneSheet.{LaneSheet}
use Rattle.bump_steps.specs.Views.{owns, standing}
use Rattle.bump_steps.specs.Plays.{Sat, Found, Told, OwnsChunk}
use Rattle.bump_readers.specs.Seats.{listed, first}
use Rattle.bump_heads.specs.Seats.{class_in, class_me, aboard_lane, IsInRange, IsClassSheet}
use Rattle.bump_steps.specs.Lives.{alone, on_class}
use Rattle.bump_steps.proofs.Told.{stands_alone}
use Rattle.bump_steps.proofs.Tries.{first_again}

-- a seat's sheets are read back
pub class_in_me : (x : ClassView) → class_in (class_me x).0 ≡ x
class_in_me x = by x.lane
  where
    by : (o : Option LaneSheet) → ◌≡◌ {A = ClassView} (record { sheet = x.sheet; lane = first (listed o) })
        (record { sheet = x.sheet; lane = o })
    by None = refl
    by (Some l) = refl

-- what is found is what the answer spells
pub found_is : (n : ℕ) (P : Head → Type 0) (h : Head) → Spells n h → Found n P → P h
found_is n P h spells found = subst P (one_head n found.0 h found.1 spells) found.2

-- a seat to which no lane is joined
pub alone_is : (m : Sat) (v : ClassView) → m ≡ class_me v → v.lane ≡ None → m.0 ≡ alone v.sheet
alone_is m v is no_lane = ap (λ (y : Sat). y.0) is
    ∙ ap (λ (o : Option LaneSheet). (class_me (record { sheet = v.sheet; lane = o })).0) no_lane

module _ (m w : Sat) (v : ClassView) (f : ClassSheet → ClassSheet) (is : m ≡ class_me v)
    (after : w ≡ (on_class f m.0, m.1)) where
  -- the seat after a step on its sheet
  pub me_after : w ≡ class_me (record v { sheet = f v.sheet })
  me_after = after ∙ ap (λ (y : Sat). (on_class f y.0, y.1)) is

  -- is seen with its new sheet
  pub view_after : class_in w.0 ≡ record v { sheet = f v.sheet }
  view_after = ap (λ (y : Sat). class_in y.0) me_after ∙ class_in_me (record v { sheet = f v.sheet })

  -- and has nothing else
  pub whole_after : w ≡ class_me (class_in w.0)
  whole_after = me_after ∙ ap class_me (sym view_after)

-- two steps on its sheet, one after the other
pub after_two : (m p w : Sat) (f g : ClassSheet → ClassSheet) → p ≡ (on_class f m.0, m.1) → w ≡ (on_class g p.0, p.1)
    → w ≡ (on_class (λ k. g (f k)) m.0, m.1)
after_two m p w f g one two = two ∙ ap (λ (y : Sat). (on_class g y.0, y.1)) one
    ∙ ap (λ (ks : List ClassSheet). (record m.0 { classes = ks }, m.1))
    (first_again f g m.0.classes)

-- a class's seat has the chunk that its class has
pub owns_here : (m : Sat) (v : ClassView) (c : ℕ) → m ≡ class_me v → owns c v.sheet ≡ true → OwnsChunk c m.0
owns_here m v c is own = subst (λ (x : Sat). OwnsChunk c x.0) (sym is)
    (omega (arith, ap {B = ℕ} (λ (b : Bool). cond b 1 0) own))

-- what the class's seat keeps, it keeps by a step on its sheet that its sheet keeps, with what it knows of a lane that is
-- joined
pub seat_kept : (m w : Sat) (now : ClassView) (f : ClassSheet → ClassSheet) (table id : TableId) (class : ℕ)
    → class_in m.0 ≡ now → m ≡ class_me (class_in m.0) → w ≡ (on_class f m.0, m.1)
    → id ≡ table
    → IsInRange table (aboard_lane (class_in m.0).lane) → class ≡ (class_in m.0).sheet.class → IsClassSheet (rows table)
    (class_in m.0).sheet → KeepsJoined (class_in m.0).sheet (class_in m.0).lane
    → (f now.sheet).class ≡ now.sheet.class → (IsClassSheet (rows table) now.sheet → IsClassSheet (rows table) (f now.sheet))
    → ((joined : Joined) → IsJoined now.sheet now.lane joined → IsJoined (f now.sheet) now.lane joined)
    → (w ≡ class_me (class_in w.0)) × (id ≡ table) × IsInRange table (aboard_lane (class_in w.0).lane)
    × (class ≡ (class_in w.0).sheet.class) × IsClassSheet (rows table) (class_in w.0).sheet
    × KeepsJoined (class_in w.0).sheet (class_in w.0).lane
seat_kept m w now f table id class view_is is after same near mine sheet lane_kept class_same keeps keeps_lane =
    let me : m ≡ class_me now = is ∙ ap class_me view_is in
    let view : class_in w.0 ≡ record now { sheet = f now.sheet } = view_after m w now f me after in (
      whole_after m w now f me after,
      same,
      subst (λ (o : Option LaneSheet). IsInRange table (aboard_lane o)) (ap (λ (x : ClassView). x.lane) view_is
          ∙ sym (ap (λ (x : ClassView). x.lane) view)) near,
      mine ∙ ap (λ (x : ClassView). x.sheet.class) view_is ∙ sym class_same
          ∙ sym (ap (λ (x : ClassView). x.sheet.class) view),
      subst (λ (k : ClassSheet). IsClassSheet (rows table) k) (sym (ap (λ (x : ClassView). x.sheet) view))
          (keeps (subst (λ (k : ClassSheet). IsClassSheet (rows table) k) (ap (λ (x : ClassView). x.sheet) view_is)
          sheet)),
      (
        lane_kept.0,
        subst (λ (x : ClassView). IsJoined x.sheet x.lane lane_kept.0) (sym view) (keeps_lane lane_kept.0
            (subst (λ (x : ClassView). IsJoined x.sheet x.lane lane_kept.0) view_is lane_kept.1)),
      ),
    )

-- a head that the class's seat finds agrees with the place and the generation of its chunk
pub agrees : (c : ℕ) (m : Sat) (now : ClassView) (h : Head) → class_in m.0 ≡ now → m ≡ class_me (class_in m.0)
    → owns c now.sheet ≡ true → Told c m.0 h → Shows h (standing now.sheet c).0
    × (h.generation ≡ (standing now.sheet c).1)
agrees c m now h view_is is own told = told.stood (standing now.sheet c)
    (stands_alone c m.0 now.sheet (ap (λ (y : Sat). y.0.classes) (is ∙ ap class_me view_is)) own)

-- and so does the Head that is answered for it
pub finds : (c n : ℕ) (m : Sat) (now : ClassView) (h : Head) → class_in m.0 ≡ now → m ≡ class_me (class_in m.0)
    → owns c now.sheet ≡ true → Spells n h → Found n (Told c m.0) → Shows h (standing now.sheet c).0
    × (h.generation ≡ (standing now.sheet c).1)
finds c n m now h view_is is own spells found = agrees c m now h view_is is own
    (found_is n (Told c m.0) h spells found)
