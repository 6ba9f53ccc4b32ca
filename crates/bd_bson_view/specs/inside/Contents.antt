-- The contents of a view of a value: a scalar, elements, or code and scope.
use Rattle.std.specs.Prelude.{◌≡◌, ℕ, List}
use Rattle.bd_value.specs.Tree as trees
use Rattle.bd_value.specs.Tree.{Tree, leaf, doc, array, code_scope, fields_of, items_of, scalar_leaf, values_of}
use Rattle.bd_value.specs.View.{view_of}
use Rattle.bd_bson_view.specs.Raw.{document_pairs, document_source, remaining_pairs, elements_source}
use Rattle.bd_bson_view.specs.{declared.views.Contents.Contents}
use Rattle.bd_bson_view.specs.declared.views.Contents.TheVariants.{Scalar, Document, Array, CodeScope}

-- The contents of a view are those of the value: its scalar, its elements, or its code and scope;
-- the views in them are into the same bytes.
abbrev pub HasContents : List ℕ → Tree → Contents → Type 0
HasContents bytes t (Scalar s) = (a : trees.Scalar) × (t ≡ leaf a) × (view_of s ≡ scalar_leaf a)
HasContents bytes t (Document elements) =
    (t ≡ doc (fields_of (remaining_pairs elements))) × (elements_source elements ≡ bytes)
HasContents bytes t (Array elements) =
    (t ≡ array (items_of (values_of (remaining_pairs elements)))) × (elements_source elements ≡ bytes)
HasContents bytes t (CodeScope code scope) =
    (t ≡ code_scope code.now (fields_of (document_pairs scope))) × (document_source scope ≡ bytes)
