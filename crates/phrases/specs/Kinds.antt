-- The calculus of a row and the sides of a sequent, as the program names them.
use Rattle.elk.specs.Sequent.{Kind, elk, refutation}
use Rattle.format.specs.Tables.{Side}
use Rattle.phrases.specs.declared.sides.Kind.{Kind as KindNamed}
use Rattle.phrases.specs.declared.sides.Side.{Side as SideNamed}

abbrev pub kind_of : KindNamed → Kind
kind_of KindNamed.Elk = elk
kind_of KindNamed.Refutation = refutation

abbrev pub side_of : SideNamed → Side
side_of SideNamed.Left = Side.left
side_of SideNamed.Right = Side.right
