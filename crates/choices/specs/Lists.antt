-- What a list of the brews to open is made into or refused for.
use Rattle.std.specs.Prelude.{◌≡◌, ℕ, ◌-◌, ◌<◌, Bool, true, false, not, ◌||◌, List, length, take, Ok, Err, filter, Result, slice_index}
use Rattle.std.specs.List.{range_with_len}
use Rattle.orders.specs.Books.{within}
use Rattle.fair.specs.Choices.{among}
use Rattle.fair.specs.Proposals.{Lowest}
use Rattle.choices.specs.declared.choice.Choice.{Choice}
use Rattle.choices.specs.declared.fault.ChoiceFault.{ChoiceFault}
use Rattle.choices.specs.declared.fault.ChoiceFault.TheVariants.{Length, Entry}
use Rattle.choices.specs.declared.figures.Figures.{Figures}
use Rattle.choices.specs.declared.brew_set.BrewSet.{BrewSet}
use Rattle.choices.specs.BrewSets.{members}
use Rattle.choices.specs.Chosen.{brews_of}

-- entry j, counted from 0, is no brew of the round, or repeats an earlier one
abbrev pub bad_entry : ℕ → List ℕ → ℕ → Bool
bad_entry brews list j = not (within (slice_index list j) brews) || among (take j list) (slice_index list j)

-- no entry of the first n is bad
abbrev pub NoneBad : ℕ → List ℕ → ℕ → Type 0
NoneBad brews list n = (j : ℕ) → j < n → bad_entry brews list j ≡ false

-- k is the first bad entry, counted from 1
abbrev pub FirstBad : ℕ → List ℕ → ℕ → Type 0
FirstBad brews list k = Lowest (length list) (λ i. bad_entry brews list (i - 1) ≡ true) k

-- the brews of the round that a list names, ascending
abbrev pub named : ℕ → List ℕ → List ℕ
named brews list = filter (among list) (range_with_len 1 brews)

-- A list is made into a choice: its length is tested first, then its entries in their order.
abbrev pub FromList : Figures → List ℕ → Result Choice ChoiceFault → Type 0
FromList f list (Ok c) = (length list ≡ f.opened) × NoneBad f.brews list (length list) × (c.figures ≡ f) × (brews_of c ≡ named f.brews list)
FromList f list (Err Length) = length list ≡ f.opened → ⊥
FromList f list (Err (Entry k)) = (length list ≡ f.opened) × FirstBad f.brews list k

-- The steps of the reading.

-- the first n entries are good, and a set of so many brews has those that they name
pub record GatheredTo (brews : ℕ) (list : List ℕ) (n : ℕ) (set : BrewSet) : Type 0 where
  pub good : NoneBad brews list n
  pub round : set.brews ≡ brews
  pub size : length (members set) ≡ n
  pub held : (c : ℕ) → among (members set) c ≡ among (take n list) c

-- a bad entry is the first
abbrev pub Faulty : ℕ → List ℕ → ChoiceFault → Type 0
Faulty brews list Length = ⊥
Faulty brews list (Entry k) = FirstBad brews list k

-- all entries read
abbrev pub Gathered : ℕ → List ℕ → Result BrewSet ChoiceFault → Type 0
Gathered brews list (Ok set) = GatheredTo brews list (length list) set × (members set ≡ named brews list)
Gathered brews list (Err fault) = Faulty brews list fault
