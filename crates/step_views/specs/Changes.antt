-- The changes from one world to another.
use Rattle.std.specs.Prelude.{◌≡◌, ◌≢◌, ◌↔◌, List, Some}
use Rattle.std.specs.List.{Contains, AllPairs}
use Rattle.machine.specs.Processor.World.{World}
use Rattle.step_views.specs.declared.places.Place.{Place}
use Rattle.step_views.specs.declared.places.Change.{Change}
use Rattle.step_views.specs.Places.{content_of}

-- this stands in the place before, that stands there after, and they are not the same
pub record IsChange (before after : World) (c : Change) : Type 0 where
  pub was : content_of before c.place ≡ Some c.before
  pub is : content_of after c.place ≡ Some c.after
  pub differs : c.before ≢ c.after

-- The list has exactly the changes from one world to the other, no place twice, and each other place has after what it
-- has before.
pub record AreChanges (before after : World) (changes : List Change) : Type 0 where
  pub exact : (c : Change) → Contains changes c ↔ IsChange before after c
  pub once : AllPairs (λ (c d : Change). c.place ≢ d.place) changes
  pub others : (place : Place) → ((c : Change) → Contains changes c → c.place ≢ place)
      → content_of after place ≡ content_of before place
