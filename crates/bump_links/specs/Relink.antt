-- What the two stores of a link change.
use Rattle.std.specs.Prelude.{◌≡◌, ◌≢◌, ℕ, ◌==◌, if◌then◌else◌, List}
use Rattle.bump_links.specs.declared.TheConstants.{NONE}
use Rattle.bump_links.specs.declared.chain.Node.{Node}
use Rattle.bump_links.specs.declared.chain.Header.{Header}
use Rattle.bump_links.specs.Chain.{forward_of, back_of, list_of}

-- the forward link of one node leads to `to`, and all else stays; where there is no such node, all stays
pub record LinksForward (old new : List Node) (before to : ℕ) : Type 0 where
  pub here : before ≢ NONE → forward_of new before ≡ to
  pub forward : (m : ℕ) → m ≢ before → forward_of new m ≡ forward_of old m
  pub back : (m : ℕ) → back_of new m ≡ back_of old m
  pub list : (m : ℕ) → list_of new m ≡ list_of old m

-- the back link of one node leads to `to`, and all else stays; where there is no such node, all stays
pub record LinksBack (old new : List Node) (after to : ℕ) : Type 0 where
  pub here : after ≢ NONE → back_of new after ≡ to
  pub back : (m : ℕ) → m ≢ after → back_of new m ≡ back_of old m
  pub forward : (m : ℕ) → forward_of new m ≡ forward_of old m
  pub list : (m : ℕ) → list_of new m ≡ list_of old m

-- the header with this head, where nothing stands before
abbrev pub header_with_head : Header → ℕ → ℕ → Header
header_with_head h before to = if before == NONE then record h { head = to } else h

-- the header with this tail, where nothing stands after
abbrev pub with_tail : Header → ℕ → ℕ → Header
with_tail h after to = if after == NONE then record h { tail = to } else h
