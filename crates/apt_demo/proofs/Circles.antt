-- The part of `demo`, circle by circle.
use Rattle.std.proofs.Common.{◌≡◌, ℕ, ◌+◌, List, ◌++◌, ap, ◌∙◌, append_assoc, add-one, sym}
use Rattle.std.specs.Prelude.{ℤ, codes}
use Rattle.apt_demo.specs.Demo.{head, centre_x, centre_y, radius, clear_x, circle_line, line_line, cut_lines, circle_block, circle_blocks, demo_part}

-- the three pieces of a circle's statements
pub one_circle : (text first second third : List ℕ) (k r : ℕ) (x y clear : ℤ) → x ≡ centre_x k → y ≡ centre_y k → r ≡ radius k → clear ≡ clear_x k
    → first ≡ text ++ circle_line x y r → second ≡ first ++ line_line x y → third ≡ second ++ cut_lines clear y → third ≡ text ++ circle_block k
one_circle text first second third k r x y clear is_x is_y is_r is_clear circle line cut =
    let a = circle_line x y r in
    let b = line_line x y in
    let c = cut_lines clear y in
    cut ∙ ap (λ t. t ++ c) (line ∙ ap (λ t. t ++ b) circle) ∙ append_assoc (text ++ a) b c ∙ append_assoc text a (b ++ c)
    ∙ (λ i. text ++ (circle_line (is_x i) (is_y i) (is_r i) ++ (line_line (is_x i) (is_y i) ++ cut_lines (is_clear i) (is_y i))))

pub one_circle_more : (text more : List ℕ) (n k : ℕ) → text ≡ head n ++ circle_blocks k → more ≡ text ++ circle_block k → more ≡ head n ++ circle_blocks (k + 1)
one_circle_more text more n k before next =
    next ∙ ap (λ t. t ++ circle_block k) before ∙ append_assoc (head n) (circle_blocks k) (circle_block k)
    ∙ ap (λ m. head n ++ circle_blocks m) (sym (add-one k))

pub all_circles : (text whole : List ℕ) (n : ℕ) → text ≡ head n ++ circle_blocks n → whole ≡ text ++ codes "FINI\n" → whole ≡ demo_part n
all_circles text whole n before last =
    last ∙ ap (λ t. t ++ codes "FINI\n") before ∙ append_assoc (head n) (circle_blocks n) (codes "FINI\n")
