-- The places of a piece: what has to stand next.
use Rattle.mm_grammar.specs.Place.{Place as MatrixPlace}
use Rattle.piece_grammar.specs.Head.{Head}

pub data Place : Type 0 where
  -- the banner
  AtBanner : Place
  -- the line of the head
  AtDesc : Place
  -- after the line of this head: a place of the array's file
  Behind : Head → MatrixPlace → Place
