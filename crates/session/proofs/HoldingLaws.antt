-- What is held by cases: which frames there are, and which of them is named.
use mathlib.Core.Path.{◌≡◌}
use mathlib.Core.Bool.{true, false}
use lib.Dec.{eqb}
use Rattle.session.specs.State.{none_held, newer_alone, covered}
use Rattle.session.specs.declared.counters.OFC.{OFC}
use Rattle.session.specs.declared.state.Held.TheVariants.{Nothing, One, Two}
use Rattle.session.specs.declared.state.Session.{Session}

module _ (s : Session) (acknowledged : OFC) where
  pub none_held_law : s.held ≡ Nothing → s ≡ covered s acknowledged
  none_held_law is = rw is

  module _ (older : OFC) (is : s.held ≡ One older) where
    pub one_named : eqb older.0 acknowledged.0 ≡ true → none_held s ≡ covered s acknowledged
    one_named named = rw (is, named)

    pub one_kept : eqb older.0 acknowledged.0 ≡ false → s ≡ covered s acknowledged
    one_kept other = rw (is, other)

  module _ (older newer : OFC) (is : s.held ≡ Two older newer) where
    pub newer_named : eqb newer.0 acknowledged.0 ≡ true → none_held s ≡ covered s acknowledged
    newer_named named = rw (is, named)

    pub older_named : eqb newer.0 acknowledged.0 ≡ false → eqb older.0 acknowledged.0 ≡ true → newer_alone s newer ≡ covered s acknowledged
    older_named other named = rw (is, other, named)

    pub two_kept : eqb newer.0 acknowledged.0 ≡ false → eqb older.0 acknowledged.0 ≡ false → s ≡ covered s acknowledged
    two_kept other another = rw (is, other, another)
