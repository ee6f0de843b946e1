-- The table of situations, computed.
-- Assumes nothing.
use mathlib.Core.Path.{refl}
use Rattle.sizes.specs.Sizes.{size_of}
use Rattle.model.specs.Model.{inserting, hand_place, ranging, close_from, sweeping, apply, after, history, fresh, set_up}
use Rattle.model.specs.Situations.{actual, played, expected, Situations, Coded, lines, Listed, Asked}

pub situations : Situations
unfolding actual played expected set_up size_of fresh after history apply inserting hand_place ranging close_from sweeping
situations = refl

pub coded : Coded
coded k x n m = refl

pub listed : Listed
unfolding lines
listed = refl

pub asked : Asked
unfolding lines
asked = refl
