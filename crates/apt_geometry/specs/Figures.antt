-- The shapes that define a name: n = e, POINT, LINE, CIRCLE and PATERN.
use Rattle.std.specs.Prelude.{ℕ, List, [], ◌∷◌, Option, Some, None}
use Rattle.apt_words.specs.declared.body.Body.{Body}
use Rattle.apt_words.specs.declared.body.Body.TheVariants as bodies
use Rattle.apt_words.specs.declared.word.Word.TheVariants as words
use Rattle.apt_words.specs.Options.{◌>>=◌}
use Rattle.apt_lexis.specs.declared.token.Token.{Token}
use Rattle.apt_expr.specs.Expressions.{expression}
use Rattle.apt_geometry.specs.Arguments.{name, pick, is_left, says, or_else}

-- the name that is defined
abbrev pub Name : Type 0
Name = List ℕ

abbrev pub assign : Name → List Token → Option Body
assign n ts = expression ts >>= λ e. Some (bodies.Assign n e)

-- ---- points

-- POINT/e,e and POINT/e,e,e
abbrev pub point_xy : Name → List Token → List Token → Option Body
point_xy n x y = expression x >>= λ x. expression y >>= λ y. Some (bodies.PointXy n x y None)

abbrev pub point_xyz : Name → List Token → List Token → List Token → Option Body
point_xyz n x y z = expression x >>= λ x. expression y >>= λ y. expression z >>= λ z. Some (bodies.PointXy n x y (Some z))

-- POINT/CENTER,c
abbrev pub point_center : Name → List Token → List Token → Option Body
point_center n center c = says words.Center center >>= λ _. name c >>= λ c. Some (bodies.PointCenter n c)

-- POINT/INTOF,l,l
abbrev pub point_lines : Name → List Token → List Token → List Token → Option Body
point_lines n intof a b = says words.Intof intof >>= λ _. name a >>= λ a. name b >>= λ b. Some (bodies.PointLines n a b)

-- POINT/k,INTOF,s,s
abbrev pub point_pick : Name → List Token → List Token → List Token → List Token → Option Body
point_pick n k intof a b = pick k >>= λ k. says words.Intof intof >>= λ _. name a >>= λ a. name b >>= λ b. Some (bodies.PointPick n k a b)

abbrev pub point : Name → List (List Token) → Option Body
point n (a ∷ b ∷ []) = or_else (point_center n a b) (point_xy n a b)
point n (a ∷ b ∷ c ∷ []) = or_else (point_lines n a b c) (point_xyz n a b c)
point n (a ∷ b ∷ c ∷ d ∷ []) = point_pick n a b c d
point n _ = None

-- ---- lines

-- LINE/p,p
abbrev pub line_points : Name → List Token → List Token → Option Body
line_points n p q = name p >>= λ p. name q >>= λ q. Some (bodies.LinePoints n p q)

-- LINE/p,PARLEL,l
abbrev pub line_par : Name → List Token → List Token → List Token → Option Body
line_par n p parlel l = name p >>= λ p. says words.Parlel parlel >>= λ _. name l >>= λ l. Some (bodies.LinePar n p l)

-- LINE/p,PERPTO,l
abbrev pub line_perp : Name → List Token → List Token → List Token → Option Body
line_perp n p perpto l = name p >>= λ p. says words.Perpto perpto >>= λ _. name l >>= λ l. Some (bodies.LinePerp n p l)

-- LINE/e,e,e,e
abbrev pub line_xy : Name → List Token → List Token → List Token → List Token → Option Body
line_xy n x y u v = expression x >>= λ x. expression y >>= λ y. expression u >>= λ u. expression v >>= λ v. Some (bodies.LineXy n x y (u, v))

-- LINE/PARLEL,l,k,e
abbrev pub line_at : Name → List Token → List Token → List Token → List Token → Option Body
line_at n parlel l k e = says words.Parlel parlel >>= λ _. name l >>= λ l. pick k >>= λ k. expression e >>= λ e. Some (bodies.LineAt n l k e)

-- LINE/p,h,TANTO,c
abbrev pub line_tan : Name → List Token → List Token → List Token → List Token → Option Body
line_tan n p h tanto c = name p >>= λ p. is_left h >>= λ h. says words.Tanto tanto >>= λ _. name c >>= λ c. Some (bodies.LineTan n p h c)

-- LINE/h,TANTO,c,h,TANTO,c
abbrev pub line_two : Name → List Token → List Token → List Token → List Token → List Token → List Token → Option Body
line_two n h tanto c k tanto' d =
    is_left h >>= λ h. says words.Tanto tanto >>= λ _. name c >>= λ c.
    is_left k >>= λ k. says words.Tanto tanto' >>= λ _. name d >>= λ d. Some (bodies.LineTwo n h c k d)

abbrev pub line_of_four : Name → List Token → List Token → List Token → List Token → Option Body
line_of_four n a b c d = or_else (line_at n a b c d) (or_else (line_tan n a b c d) (line_xy n a b c d))

abbrev pub line : Name → List (List Token) → Option Body
line n (a ∷ b ∷ []) = line_points n a b
line n (a ∷ b ∷ c ∷ []) = or_else (line_par n a b c) (line_perp n a b c)
line n (a ∷ b ∷ c ∷ d ∷ []) = line_of_four n a b c d
line n (a ∷ b ∷ c ∷ d ∷ e ∷ f ∷ []) = line_two n a b c d e f
line n _ = None

-- ---- circles

-- CIRCLE/e,e,e
abbrev pub circle_three : Name → List Token → List Token → List Token → Option Body
circle_three n x y r = expression x >>= λ x. expression y >>= λ y. expression r >>= λ r. Some (bodies.CircleThree n x y r)

-- CIRCLE/CENTER,p,p
abbrev pub circle_through : Name → List Token → List Token → List Token → Option Body
circle_through n center p q = says words.Center center >>= λ _. name p >>= λ p. name q >>= λ q. Some (bodies.CircleThrough n p q)

-- CIRCLE/CENTER,p,RADIUS,e
abbrev pub circle_radius : Name → List Token → List Token → List Token → List Token → Option Body
circle_radius n center p radius e =
    says words.Center center >>= λ _. name p >>= λ p. says words.Radius radius >>= λ _. expression e >>= λ e. Some (bodies.CircleRadius n p e)

-- CIRCLE/CENTER,p,TANTO,l
abbrev pub circle_tan : Name → List Token → List Token → List Token → List Token → Option Body
circle_tan n center p tanto l =
    says words.Center center >>= λ _. name p >>= λ p. says words.Tanto tanto >>= λ _. name l >>= λ l. Some (bodies.CircleTan n p l)

-- CIRCLE/k,l,k,l,RADIUS,e
abbrev pub circle_corner : Name → List Token → List Token → List Token → List Token → List Token → List Token → Option Body
circle_corner n j a k b radius e =
    pick j >>= λ j. name a >>= λ a. pick k >>= λ k. name b >>= λ b.
    says words.Radius radius >>= λ _. expression e >>= λ e. Some (bodies.CircleCorner n j a k b e)

abbrev pub circle : Name → List (List Token) → Option Body
circle n (a ∷ b ∷ c ∷ []) = or_else (circle_through n a b c) (circle_three n a b c)
circle n (a ∷ b ∷ c ∷ d ∷ []) = or_else (circle_radius n a b c d) (circle_tan n a b c d)
circle n (a ∷ b ∷ c ∷ d ∷ e ∷ f ∷ []) = circle_corner n a b c d e f
circle n _ = None

-- ---- patterns

-- PATERN/LINEAR,p,p,e
abbrev pub patern : Name → List (List Token) → Option Body
patern n (linear ∷ p ∷ q ∷ e ∷ []) =
    says words.Linear linear >>= λ _. name p >>= λ p. name q >>= λ q. expression e >>= λ e. Some (bodies.Patern n p q e)
patern n _ = None
